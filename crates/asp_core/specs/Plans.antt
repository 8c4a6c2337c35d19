-- What a core keeps of the plan and the policies that it was given.
use Rattle.std.specs.Prelude.{◌≡◌, true, is_some}
use Rattle.asp_model.specs.Names.{FutureShape}
use Rattle.def_journals.specs.Edges.{home_of}
use Rattle.update_policy.specs.declared.plan.Plan.{Plan}
use Rattle.update_policy.specs.declared.strategy.Policies.{Policies}
use Rattle.core_edges.specs.declared.edges.Edges.{Edges}
use Rattle.core_edges.specs.Answers.{Answering, AreAsked, Counting}
use Rattle.core_edges.specs.Strategies.{strategy_in}

-- the plan stays, and so does the strategy of each future that has a home
pub record KeepsStrategies {P : Type 0} (old new : Edges P) : Type 0 where
  pub plan : new.plan ≡ old.plan
  pub strategies : (f : FutureShape) → is_some (home_of f old.holders.holders.homes) ≡ true → strategy_in new f ≡ strategy_in old f

-- The plan is this one. From these policies on, the policy of its future's strategy was asked about each edge, once,
-- in the order of the edges, and gave its answer.
pub record AreByPlan {P : Type 0} (answers : Answering P) (counts : Counting P) (plan : Plan) (policies : Policies P) (x : Edges P) : Type 0 where
  pub same : x.plan ≡ plan
  pub asked : AreAsked answers counts (strategy_in x) x.holders.holders.edges x.holders.answers policies x.policies

-- so they stay, whatever the plan and the policies were
abbrev pub StayByPlan : {P : Type 0} → Answering P → Counting P → (old new : Edges P) → Type 0
StayByPlan answers counts old new = (plan : Plan) (policies : Policies _)
    → AreByPlan answers counts plan policies old → AreByPlan answers counts plan policies new
