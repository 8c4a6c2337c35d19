-- Leases that ran, what is owed, and the end of a run.
use Rattle.std.proofs.Common.{arith, ◌+◌, ◌≡◌, ◌∙◌, [], ℕ, Bool, true, false, List, Option, Some, None, Result, Ok, Err, OnOk, OnErr, IfOk, refl, sym, ap, subst}
use Rattle.std.proofs.lemmas.Bool.{true≢false}
use Rattle.std.specs.Option.{IfSome}
use Rattle.asp_model.specs.History.{BeginsWith, HistoryShape, program_history}
use Rattle.asp_model.specs.Outcome.{outcome_of}
use Rattle.asp_model.proofs.HistoryLemmas.{begins_with_earlier, begins_with_itself}
use Rattle.asp_model.specs.declared.journal.Delivery.{Delivery}
use Rattle.asp_model.specs.Shapes.{delivery_shape, outcome_shape}
use Rattle.asp_model.specs.Term.{Tree}
use Rattle.asp_model.specs.Names.{FutureShape}
use Rattle.law_core.specs.Outcomes.{IsBudgeted}
use Rattle.law_journals.specs.Budgets.{most_in}
use Rattle.core_thaws.specs.Holders.{SameHolders}
use Rattle.def_journals.specs.Edges.{EdgeShape, HoldersShape, home_of, homes_in}
use Rattle.def_journals.specs.Journals.{RunShape, first_in, run_of}
use Rattle.def_journals.specs.Passing.{holders_of}
use Rattle.law_steps.proofs.NameLemmas.{is_there}
use Rattle.def_paths.specs.Outcomes.{whole_outcome_of}
use Rattle.run_ends.specs.declared.ends.RunEnd.{RunEnd}
use Rattle.run_ends.specs.Ends.{IsEndOf}
use Rattle.law_core.proofs.OutcomeLemmas.{journals_end, verdicts_spend}
use Rattle.core_state.specs.declared.lease.Lease.{Lease}
use Rattle.core_state.specs.Leases.{HasStopped}
use Rattle.code_table.specs.declared.code.Node.{Node}
use Rattle.update_policy.specs.declared.plan.Plan.{Plan}
use Rattle.update_policy.specs.declared.strategy.Policies.{Policies}
use Rattle.update_policy.specs.Plans.{plan_shape, strategy_by}
use Rattle.core_edges.specs.Answers.{Answering, AreAsked, Counting}
use Rattle.core_edges.specs.Strategies.{strategy_in}
use Rattle.asp_core.specs.EndOfRun.{IsEndOfHistory, IsEndOfRun}
use Rattle.asp_core.specs.declared.cores.Core.{Core}
use Rattle.asp_core.specs.Chosen.{StaysChosen}
use Rattle.asp_core.specs.Cores.{IsHome, IsKept, IsRun, code_of, first_homes, history_of}
use Rattle.asp_core.specs.Calls.{IsLentBy, MayDeliver, verdict_of}
use Rattle.asp_core.specs.Plans.{AreByPlan, StayByPlan}
use Rattle.asp_core.specs.Stopping.{AllStopped, HasStoppedOr, StaysStopped}
use Rattle.asp_core.proofs.ChosenLemmas.{chosen_same, delivered_same, lazy_delivers_nothing, over_delivered}
use Rattle.asp_core.specs.Over.{IsOver}
use Rattle.asp_core.specs.PlannedEnds.{IsEndAsChosen, IsEndAsPlanned, IsEndByPlan}

-- Leases

-- one that was run has stopped, unless it is spent
pub ran_stopped : {A E : Type 0} (r : Result A E) (h : HistoryShape) (code : List Node) (l : Lease) → OnOk r (HasStopped h code l) → OnErr r (l.spent ≡ true) → HasStoppedOr h code l
ran_stopped (Ok x) h code l stops gives_up fresh = stops
ran_stopped (Err e) h code l stops gives_up fresh = absurd (true≢false (sym gives_up ∙ fresh))

-- Cores

module _ {P : Type 0} where
  -- one that is not spent stands for a run
  pub fresh_run : (x : Core P) → IsKept x → (x.spent ≡ true → ⊥) → (s : RunShape) × IsRun x s
  fresh_run x kept not = kept (by x.spent not)
    where
      by : (b : Bool) → (b ≡ true → ⊥) → b ≡ false
      by true h = absurd (h refl)
      by false h = refl

  -- where the verdict is there, the counts keep within what there was
  spent_so : (x : Core P) (s : RunShape) → IsOver x → IsRun x s → IsBudgeted (most_in (history_of x)) (outcome_of s.configuration)
  spent_so x s over is =
      let v = is_there (verdict_of x s) (over.told s is) in
      (verdicts_spend (history_of x) s x.edges.holders.holders x.edges.holders.answers v.0 is.stand.core.first.sound is.stand.core.run v.1).1

  -- the end of a run whose verdict is there
  pub history_ended : (x : Core P) (s : RunShape) (over : IsOver x) (r : RunEnd) → IsRun x s → IsEndOf r (whole_outcome_of s.configuration) → outcome_shape r.outcome ≡ outcome_of s.configuration
      → IsEndOfHistory (history_of x) r
  history_ended x s over r is end outcome = record { run = s; lawful = is.stand.core.run; end = end; outcome = outcome; budgeted = spent_so x s over is }

  -- of one that began with its program
  pub run_ended : (x : Core P) (s : RunShape) (over : IsOver x) (r : RunEnd) → IsRun x s → (history_of x).first ≡ None → IsEndOf r (whole_outcome_of s.configuration) → outcome_shape r.outcome ≡ outcome_of s.configuration
      → IsEndOfRun (history_of x).program (history_of x).budget r
  run_ended x s over r is start end outcome =
      let h : HistoryShape = history_of x in
      let most : most_in h ≡ h.budget = ap (λ o. most_in (record h { first = o })) start ∙ no_more_spent h.budget in
      let lawful : run_of (program_history h.program h.budget h.entries) ≡ Some s = subst (λ o. run_of (record h { first = o }) ≡ Some s) start is.stand.core.run in
      record {
        journal = h.entries;
        run = s;
        lawful = lawful;
        end = end;
        outcome = outcome;
        replayed = journals_end h.program h.budget h.entries s is.bare lawful;
        budgeted = subst (λ b. IsBudgeted b (outcome_of s.configuration)) most (spent_so x s over is);
      }
    where
      -- nothing is spent where a program begins
      no_more_spent : (b : ℕ) → 0 + b ≡ b
      no_more_spent b = omega arith

  -- no future has a home there
  none_home : (x : Core P) → (history_of x).first ≡ None → (f : FutureShape) → home_of f (first_homes x) ≡ None
  none_home x start f = ap (λ o. home_of f (homes_in (first_in (record (history_of x) { first = o })).configuration)) start

  pub lent_as : (x y : Core P) (s : RunShape) (k : ℕ) (o : Option Lease) (l : Lease) → o ≡ Some l → IsLentBy x s k o y → IsLentBy x s k (Some l) y
  lent_as x y s k o l is lent = subst (λ q. IsLentBy x s k q y) is lent

  -- one whose call answers something was not spent
  pub owed_run : {A E : Type 0} (x : Core P) → IsKept x → (v : A) (e : E) → (x.spent ≡ true → Ok v ≡ Err e) → (s : RunShape) × IsRun x s
  owed_run {A} {E} x kept v e none = fresh_run x kept (λ spent. subst (λ (q : Result A E). OnOk q ⊥) (sym (none spent)) tt)

  -- what is owed may be delivered
  pub owed_may : (x y : Core P) (o : Option Delivery) (d : Delivery) → o ≡ Some d → y ≡ x → ((s : RunShape) → IsRun x s → IfSome o (λ e. MayDeliver s (delivery_shape e))) → (s : RunShape) → IsRun y s → MayDeliver s (delivery_shape d)
  owed_may x y o d is same may s run = subst (λ q. IfSome q (λ e. MayDeliver s (delivery_shape e))) is (may s (subst (λ c. IsRun c s) same run))

  -- a core that goes on from another
  pub record IsGoing (answers : Answering P) (counts : Counting P) (first now : Core P) : Type 0 where
    pub kept : IsKept now
    pub begins : BeginsWith (history_of now) (history_of first)
    pub home : IsHome now
    pub code : code_of now ≡ code_of first
    pub by_plan : StayByPlan answers counts first.edges now.edges
    pub chosen : StaysChosen first now
    pub stopped : StaysStopped (history_of first) (history_of now)

  module _ (answers : Answering P) (counts : Counting P) where
    pub going_first : (x : Core P) → IsKept x → IsHome x → IsGoing answers counts x x
    going_first x kept home = record { kept = kept; home = home; begins = begins_with_itself (history_of x); code = refl; by_plan = λ plan policies is. is; chosen = λ is. is; stopped = λ is. is }

    pub going_on : (x y z : Core P) → IsGoing answers counts x y → IsKept z → IsHome z → BeginsWith (history_of z) (history_of y) → code_of z ≡ code_of y → StayByPlan answers counts y.edges z.edges
        → StaysChosen y z → StaysStopped (history_of y) (history_of z) → IsGoing answers counts x z
    going_on x y z going kept home begins code stay chosen stopped = record {
      kept = kept;
      home = home;
      begins = begins_with_earlier (history_of z) (history_of y) (history_of x) begins going.begins;
      code = code ∙ going.code;
      by_plan = λ plan policies is. stay plan policies (going.by_plan plan policies is);
      chosen = λ is. chosen (going.chosen is);
      stopped = λ is. stopped (going.stopped is);
    }

    pub going_end : {E : Type 0} (r : Result (Core P) E) (x y : Core P) (Q : Core P → Type 0) → IfOk r (λ z. z ≡ y) → Q y → IfOk r Q
    going_end (Ok z) x y Q same is = subst Q (sym same) is
    going_end (Err e) x y Q same is = tt

    -- its edges are those of a journal of its program
    abbrev holders_from_start : Core P → HoldersShape
    holders_from_start x = holders_of (program_history (history_of x).program (history_of x).budget (history_of x).entries)

    holders_from : (x : Core P) (s : RunShape) → IsRun x s → (history_of x).first ≡ None → SameHolders x.edges.holders.holders (holders_from_start x)
    holders_from x s is start = subst (λ o. SameHolders x.edges.holders.holders (holders_of (record (history_of x) { first = o }))) start is.stand.edges.holders

    edges_of : (x : Core P) (s : RunShape) → IsRun x s → (history_of x).first ≡ None → x.edges.holders.holders.edges ≡ (holders_from_start x).edges
    edges_of x s is start = (holders_from x s is start).edges

    -- the end of a run by a plan
    planned_end : (x : Core P) (over : IsOver x) (q : RunEnd) → IsEndOf q (whole_outcome_of over.run.configuration) → outcome_shape q.outcome ≡ outcome_of over.run.configuration
        → (plan : Plan) (policies : Policies P) → AreByPlan answers counts plan policies x.edges → (history_of x).first ≡ None → IsEndByPlan answers counts plan policies (history_of x).program (history_of x).budget q
    unfolding run_ended
    planned_end x over q end outcome plan policies by start = record {
      end = run_ended x over.run over q over.is start end outcome;
      strategies = strategy_in x.edges;
      labels = λ m k p st. over.is.labels m k p st (none_home x start p.future) ∙ ap (λ o. strategy_by (plan_shape o) p.label) by.same;
      choices = x.edges.holders.answers;
      after = x.edges.policies;
      asked = subst (λ (xs : List EdgeShape). AreAsked answers counts (strategy_in x.edges) xs x.edges.holders.answers policies x.edges.policies) (edges_of x over.run over.is start) by.asked;
    }

    pub ended_by_plan : {E : Type 0} (x : Core P) (over : IsOver x) (r : Result RunEnd E) → IfOk r (λ q. IsEndOf q (whole_outcome_of over.run.configuration)) → IfOk r (λ q. outcome_shape q.outcome ≡ outcome_of over.run.configuration)
        → IsEndAsPlanned answers counts x r
    ended_by_plan x over (Ok q) end outcome plan policies by start = planned_end x over q end outcome plan policies by start
    ended_by_plan x over (Err e) end outcome plan policies by start = tt

    -- and by what the policies chose
    pub ended_by_choice : {E : Type 0} (x : Core P) (over : IsOver x) (r : Result RunEnd E) → IfOk r (λ q. IsEndOf q (whole_outcome_of over.run.configuration)) → IfOk r (λ q. outcome_shape q.outcome ≡ outcome_of over.run.configuration)
        → IsEndAsChosen answers counts x r
    unfolding planned_end run_ended
    ended_by_choice x over (Ok q) end outcome plan policies by chosen stopped start =
        let choices = x.edges.holders.answers in
        let same = holders_from x over.run over.is start in record {
          planned = planned_end x over q end outcome plan policies by start;
          chosen = chosen_same x.edges.holders.holders (holders_from_start x) same choices (history_of x).entries chosen;
          delivered = delivered_same x.edges.holders.holders (holders_from_start x) same choices (over_delivered x over.run over.is (over.told over.run over.is));
          lazy = λ leaves. lazy_delivers_nothing P answers counts (strategy_in x.edges) (history_of x).entries x.edges.holders.holders choices policies x.edges.policies leaves by.asked chosen;
          stopped = subst (λ o. AllStopped (record (history_of x) { first = o })) start stopped;
        }
    ended_by_choice x over (Err e) end outcome plan policies by chosen stopped start = tt

  -- the end is that of the run of its history
  pub outcome_ended : {E : Type 0} (x : Core P) (over : IsOver x) (r : Result RunEnd E) → IfOk r (λ q. IsEndOf q (whole_outcome_of over.run.configuration)) → IfOk r (λ q. outcome_shape q.outcome ≡ outcome_of over.run.configuration)
      → (history_of x).first ≡ None → IfOk r (IsEndOfRun (history_of x).program (history_of x).budget)
  outcome_ended x over (Ok q) end outcome start = run_ended x over.run over q over.is start end outcome
  outcome_ended x over (Err e) end outcome start = tt

  pub outcome_told : {E : Type 0} (x : Core P) (over : IsOver x) (r : Result RunEnd E) → IfOk r (λ q. IsEndOf q (whole_outcome_of over.run.configuration)) → IfOk r (λ q. outcome_shape q.outcome ≡ outcome_of over.run.configuration)
      → IfOk r (IsEndOfHistory (history_of x))
  outcome_told x over (Ok q) end outcome = history_ended x over.run over q over.is end outcome
  outcome_told x over (Err e) end outcome = tt

  pub over_kept : (x : Core P) → IsOver x → IsKept x
  over_kept x over = λ _. (over.run, over.is)

pub on_ok : {A E X : Type 0} (r : Result A E) → X → OnOk r X
on_ok (Ok a) x = x
on_ok (Err e) x = tt

-- with the program and the budget of another history
pub ended_as : {E : Type 0} (Q : Tree → ℕ → RunEnd → Type 0) (r : Result RunEnd E) (h k : HistoryShape) (program : Tree) (budget : ℕ) → BeginsWith h k → k ≡ program_history program budget [] → (h.first ≡ None → IfOk r (Q h.program h.budget)) → IfOk r (Q program budget)
ended_as Q r h k program budget begins is end =
    let term : h.program ≡ program = begins.program ∙ ap (λ (q : HistoryShape). q.program) is in
    let most : h.budget ≡ budget = begins.budget ∙ ap (λ (q : HistoryShape). q.budget) is in
    let start : h.first ≡ None = begins.first ∙ ap (λ (q : HistoryShape). q.first) is in
    subst (λ b. IfOk r (Q program b)) most (subst (λ t. IfOk r (Q t h.budget)) term (end start))
