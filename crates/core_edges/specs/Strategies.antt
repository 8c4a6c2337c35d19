-- Strategies of futures: those of the labels of their requests.
use Rattle.std.specs.Prelude.{◌≡◌, ◌≢◌}
use Rattle.std.specs.Map.{lookup}
use Rattle.asp_model.specs.Names.{FutureShape, Text, same_future}
use Rattle.asp_model.specs.Shapes.{future_shape}
use Rattle.update_policy.specs.declared.strategy.Strategy.{Strategy}
use Rattle.update_policy.specs.Plans.{or_strategy, plan_shape, strategy_by}
use Rattle.core_edges.specs.declared.edges.Edges.{Edges}

-- the one that is kept for the future, or that of all other futures
abbrev pub strategy_in : {P : Type 0} → Edges P → FutureShape → Strategy
strategy_in x f = or_strategy x.plan.strategy (lookup (λ g. same_future f (future_shape g)) x.strategies.entries)

-- the future of a request with this label has the plan's strategy for the label, and the others keep theirs
pub record IsLearned {P : Type 0} (f : FutureShape) (label : Text) (old new : Edges P) : Type 0 where
  pub here : strategy_in new f ≡ strategy_by (plan_shape old.plan) label
  pub others : (g : FutureShape) → f ≢ g → strategy_in new g ≡ strategy_in old g

-- who is out, the plan and the strategies are as before
pub record KeepsOthers {P : Type 0} (old new : Edges P) : Type 0 where
  pub activities : new.holders.activities ≡ old.holders.activities
  pub plan : new.plan ≡ old.plan
  pub strategies : new.strategies ≡ old.strategies

-- only strategies have changed
pub record KeepsLearning {P : Type 0} (old new : Edges P) : Type 0 where
  pub holders : new.holders ≡ old.holders
  pub plan : new.plan ≡ old.plan
  pub policies : new.policies ≡ old.policies

-- only who is known and who is out has changed
pub record KeepsEdges {P : Type 0} (old new : Edges P) : Type 0 where
  pub holders : new.holders.holders ≡ old.holders.holders
  pub answers : new.holders.answers ≡ old.holders.answers
  pub plan : new.plan ≡ old.plan
  pub strategies : new.strategies ≡ old.strategies
  pub policies : new.policies ≡ old.policies
