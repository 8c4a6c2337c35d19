-- What a reduction gives, as events tell it.
use Rattle.std.specs.Prelude.{◌≡◌}
use Rattle.asp_model.specs.Names.{FutureShape, Name}
use Rattle.asp_model.specs.Intent.{Effect}
use Rattle.code_table.specs.Cells.{held_future}
use Rattle.def_journals.specs.Edges.{HoldersShape}
use Rattle.step_activity.specs.declared.act.Given.{Given}
use Rattle.step_activity.specs.declared.act.Given.TheVariants as given
use Rattle.step_activity.specs.Effects.{IsGiven}
use Rattle.law_journals.specs.Fresh.{IsFresh}
use Rattle.core_edges.specs.declared.edges.Edges.{Edges}
use Rattle.core_edges.specs.Strategies.{IsLearned, strategy_in}

-- it is of an effect that sends and fills nothing that these holders know
abbrev pub IsSomeFresh : HoldersShape → Given → Type 0
IsSomeFresh h g = (n : Name) × (e : Effect) × IsGiven n e g × IsFresh h e

-- the strategy of a new request's future is learned
abbrev pub AreLearned : {P : Type 0} → Given → (old new : Edges P) → Type 0
AreLearned (given.Sent n r) old new = IsLearned (held_future r.future) r.label.text old new
AreLearned g old new = (f : FutureShape) → strategy_in new f ≡ strategy_in old f
