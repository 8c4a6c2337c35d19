-- One sender to each receiver is enough, where nobody polls.
use Rattle.std.proofs.Common.{◌≡◌, ◌≢◌, ◌∙◌, ℕ, Bool, true, false, List, [], Result, Ok, Err, IfOk, ap, refl, subst}
use Rattle.std.specs.Prelude.{cond}
use Rattle.std.specs.List.{list_any}
use Rattle.asp_model.specs.Outcome.{OutcomeShape, lists_in}
use Rattle.asp_model.specs.Replay.{lists_of}
use Rattle.asp_model.specs.Shapes.{outcome_shape}
use Rattle.asp_model.specs.Intent.{StatusShape}
use Rattle.asp_model.specs.Status.{Blocked, Budget, End, IsStuck, is_awaiting, is_running, statuses_of, verdict_among}
use Rattle.asp_model.specs.Term.{Tree, locations}
use Rattle.law_journals.proofs.JournalLemmas.{journals_reach}
use Rattle.law_steps.specs.Joins.{AreNarrow}
use Rattle.law_paths.proofs.ReplayLemmas.{narrow_runs_are_alone}
use Rattle.run_ends.specs.declared.ends.RunEnd.{RunEnd}
use Rattle.asp_core.specs.EndOfRun.{IsEndOfRun}
use Rattle.worker_pool.specs.Senders.{OneSenderIsEnough}

-- nobody can step where the budget did not run out
stuck_by : (statuses : List StatusShape) → verdict_among statuses ≢ Budget → list_any is_running statuses ≡ false
stuck_by statuses other = by (list_any is_running statuses) refl
  where
    by : (b : Bool) → list_any is_running statuses ≡ b → b ≡ false
    by true is = absurd (other (ap (λ b. cond b Budget (cond (list_any is_awaiting statuses) Blocked End)) is))
    by false is = refl

pub one_sender : (program : Tree) (budget : ℕ) (r : RunEnd) → locations program ≡ [] → (e : IsEndOfRun program budget r) → OneSenderIsEnough program (outcome_shape r.outcome) e.run.configuration
one_sender program budget r bare e over narrow =
    let c = e.run.configuration in
    let lists : lists_in (outcome_shape r.outcome) ≡ lists_of c = ap lists_in e.outcome ∙ e.replayed.lists in
    let stuck : IsStuck c = stuck_by (statuses_of c) (λ is. over (ap (λ (o : OutcomeShape). o.verdict) e.outcome ∙ is)) in
    narrow_runs_are_alone program c bare (journals_reach program budget e.journal e.run e.lawful) stuck (subst AreNarrow lists narrow)

pub alone : {E : Type 0} (r : Result RunEnd E) (program : Tree) (budget : ℕ) → locations program ≡ [] → IfOk r (λ x. (e : IsEndOfRun program budget x) → OneSenderIsEnough program (outcome_shape x.outcome) e.run.configuration)
alone (Ok x) program budget bare = λ e. one_sender program budget x bare e
alone (Err e) program budget bare = tt
