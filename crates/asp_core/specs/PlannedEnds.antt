-- The end of a run as a plan and policies had it.
use Rattle.std.specs.Prelude.{◌≡◌, ℕ, IfOk, List, None, Result}
use Rattle.asp_model.specs.Configuration.{RequestShape}
use Rattle.asp_model.specs.History.{ChoiceShape, program_history}
use Rattle.asp_model.specs.Names.{FutureShape, Name}
use Rattle.asp_model.specs.Term.{Tree}
use Rattle.def_journals.specs.Passing.{holders_of}
use Rattle.law_steps.specs.Kept.{Stands}
use Rattle.law_steps.specs.Linked.{Each}
use Rattle.run_ends.specs.declared.ends.RunEnd.{RunEnd}
use Rattle.update_policy.specs.declared.plan.Plan.{Plan}
use Rattle.update_policy.specs.declared.strategy.Policies.{Policies}
use Rattle.update_policy.specs.declared.strategy.Strategy.{Strategy}
use Rattle.update_policy.specs.Plans.{plan_shape, strategy_by}
use Rattle.core_edges.specs.Answers.{Answering, AreAsked, Counting}
use Rattle.asp_core.specs.EndOfRun.{IsEndOfRun}
use Rattle.asp_core.specs.declared.cores.Core.{Core}
use Rattle.asp_core.specs.Chosen.{AlwaysLeaves, AreChosen, ChosenAreDelivered, DeliversChosen, IsAlongNoEdge}
use Rattle.asp_core.specs.Cores.{history_of}
use Rattle.asp_core.specs.Plans.{AreByPlan}
use Rattle.asp_core.specs.Stopping.{AllStopped}

pub record IsEndByPlan {P : Type 0} (answers : Answering P) (counts : Counting P) (plan : Plan) (policies : Policies P) (program : Tree) (budget : ℕ) (r : RunEnd) : Type 0 where
  pub end : IsEndOfRun program budget r
  -- each future has the plan's strategy for the label of its request
  pub strategies : FutureShape → Strategy
  pub labels : (m : Name) (k : ℕ) (q : RequestShape) → Stands end.run.configuration m k q
      → strategies q.future ≡ strategy_by (plan_shape plan) q.label
  -- each edge of the journal has the answer of the policy of its future's strategy, which was asked about it at most once
  pub choices : List ChoiceShape
  pub after : Policies P
  pub asked : AreAsked answers counts strategies (holders_of (program_history program budget end.journal)).edges choices policies after

-- the end that a core gives whose run began with its program, by whatever plan and policies its edges were answered
abbrev pub IsEndAsPlanned : {P E : Type 0} → Answering P → Counting P → Core P → Result RunEnd E → Type 0
IsEndAsPlanned answers counts x r = (plan : Plan) (policies : Policies _) → AreByPlan answers counts plan policies x.edges
    → (history_of x).first ≡ None
    → IfOk r (IsEndByPlan answers counts plan policies (history_of x).program (history_of x).budget)

-- Such an end, in which values went along all those edges for which a policy chose it, and along no other: along none,
-- where the policies always leave. And each activity that came back had stopped.
pub record IsEndByChoice {P : Type 0} (answers : Answering P) (counts : Counting P) (plan : Plan) (policies : Policies P) (program : Tree) (budget : ℕ) (r : RunEnd) : Type 0 where
  pub planned : IsEndByPlan answers counts plan policies program budget r
  pub chosen : AreChosen planned.end.journal (holders_of (program_history program budget planned.end.journal)) planned.choices
  pub delivered : ChosenAreDelivered (holders_of (program_history program budget planned.end.journal)) planned.choices
  pub lazy : AlwaysLeaves answers → Each IsAlongNoEdge planned.end.journal
  pub stopped : AllStopped (program_history program budget planned.end.journal)

-- so a core gives it, of which that is true
abbrev pub IsEndAsChosen : {P E : Type 0} → Answering P → Counting P → Core P → Result RunEnd E → Type 0
IsEndAsChosen answers counts x r = (plan : Plan) (policies : Policies _) → AreByPlan answers counts plan policies x.edges
    → DeliversChosen x → AllStopped (history_of x) → (history_of x).first ≡ None
    → IfOk r (IsEndByChoice answers counts plan policies (history_of x).program (history_of x).budget)
