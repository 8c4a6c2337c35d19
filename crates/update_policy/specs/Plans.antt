-- Plans: strategies of futures, by the labels of their requests.
use Rattle.std.specs.Prelude.{List, [], ◌∷◌, Option, Some, None, true, false, map}
use Rattle.asp_model.specs.Names.{Text, same_text}
use Rattle.asp_model.specs.declared.word.Label.{Label}
use Rattle.update_policy.specs.declared.strategy.Strategy.{Strategy}
use Rattle.update_policy.specs.declared.plan.Plan.{Plan}

pub record PlanShape : Type 0 where
  -- of futures whose request has another label
  pub strategy : Strategy
  pub by_label : List (Text × Strategy)

abbrev pub text_of : Label → Text
text_of l = l.text

abbrev pub pair_shape : Label × Strategy → Text × Strategy
pair_shape x = (text_of x.0, x.1)

abbrev pub plan_shape : Plan → PlanShape
plan_shape p = record { strategy = p.strategy; by_label = map pair_shape p.by_label.items }

-- the strategy with which a label is listed
abbrev pub listed_by : Text → List (Text × Strategy) → Option Strategy
listed_by l [] = None
listed_by l (x ∷ xs) = elim (same_text x.0 l) [ true ↦ Some x.1 | false ↦ listed_by l xs ]

abbrev pub or_strategy : Strategy → Option Strategy → Strategy
or_strategy usual None = usual
or_strategy usual (Some s) = s

-- of the future of a request with this label
abbrev pub strategy_by : PlanShape → Text → Strategy
strategy_by plan l = or_strategy plan.strategy (listed_by l plan.by_label)
