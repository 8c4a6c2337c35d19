-- One run after another.
use Rattle.std.proofs.Common.{Result, Ok, Err, IfOk}
use Rattle.asp_model.specs.History.{BeginsWith}
use Rattle.asp_model.proofs.HistoryLemmas.{begins_with_earlier}
use Rattle.core_edges.specs.Answers.{Answering, Counting}
use Rattle.asp_core.specs.declared.cores.Core.{Core}
use Rattle.asp_core.specs.Chosen.{StaysChosen}
use Rattle.asp_core.specs.Cores.{history_of}
use Rattle.asp_core.specs.Plans.{StayByPlan}
use Rattle.asp_core.specs.Stopping.{StaysStopped}

module _ {P : Type 0} where
  pub further : {E : Type 0} (r : Result (Core P) E) (a b : Core P) → BeginsWith (history_of a) (history_of b)
      → IfOk r (λ c. BeginsWith (history_of c) (history_of a)) → IfOk r (λ c. BeginsWith (history_of c) (history_of b))
  further (Ok c) a b later x = begins_with_earlier (history_of c) (history_of a) (history_of b) x later
  further (Err e) a b later x = x

  pub chosen_further : {E : Type 0} (r : Result (Core P) E) (a b : Core P) → StaysChosen b a → IfOk r (λ c. StaysChosen a c) → IfOk r (λ c. StaysChosen b c)
  chosen_further (Ok c) a b before then = λ is. then (before is)
  chosen_further (Err e) a b before then = then

  pub stopped_further : {E : Type 0} (r : Result (Core P) E) (a b : Core P) → StaysStopped (history_of b) (history_of a)
      → IfOk r (λ c. StaysStopped (history_of a) (history_of c)) → IfOk r (λ c. StaysStopped (history_of b) (history_of c))
  stopped_further (Ok c) a b before then = λ is. then (before is)
  stopped_further (Err e) a b before then = then

  pub planned_further : {E : Type 0} (answers : Answering P) (counts : Counting P) (r : Result (Core P) E) (a b : Core P) → StayByPlan answers counts b.edges a.edges
      → IfOk r (λ c. StayByPlan answers counts a.edges c.edges) → IfOk r (λ c. StayByPlan answers counts b.edges c.edges)
  planned_further answers counts (Ok c) a b before then = λ plan policies is. then plan policies (before plan policies is)
  planned_further answers counts (Err e) a b before then = then
