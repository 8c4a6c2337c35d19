-- Strategies by the labels of the requests of a configuration.
use Rattle.std.specs.Prelude.{◌≡◌, ℕ, List, None}
use Rattle.asp_model.specs.Names.{FutureShape, Name}
use Rattle.asp_model.specs.Configuration.{Configuration, RequestShape}
use Rattle.def_journals.specs.Edges.{home_of}
use Rattle.update_policy.specs.Plans.{plan_shape, strategy_by}
use Rattle.law_steps.specs.Kept.{Stands}
use Rattle.core_edges.specs.declared.edges.Edges.{Edges}
use Rattle.core_edges.specs.Strategies.{strategy_in}

-- the future of each request, but of those with a home among these, has the plan's strategy for the request's label
abbrev pub AreByLabels : {P : Type 0} → List (FutureShape × Name) → Configuration → Edges P → Type 0
AreByLabels homes c x = (m : Name) (k : ℕ) (r : RequestShape) → Stands c m k r → home_of r.future homes ≡ None
    → strategy_in x r.future ≡ strategy_by (plan_shape x.plan) r.label
