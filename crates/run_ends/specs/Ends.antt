-- What the end of a run stands for.
use Rattle.std.specs.Prelude.{◌≡◌, Bool, true, false, List, [], ◌∷◌, reverse}
use Rattle.std.specs.Arc.{arc_value}
use Rattle.asp_model.specs.Shapes.{outcome_shape}
use Rattle.code_table.specs.declared.code.Node.{Node}
use Rattle.code_table.specs.Shapes.{store_of}
use Rattle.future_table.specs.Values.{values_of}
use Rattle.step_machine.specs.declared.frames.Form.{Form}
use Rattle.step_machine.specs.declared.frames.Form.TheVariants as form
use Rattle.step_machine.specs.declared.frames.Frame.{Frame}
use Rattle.step_machine.specs.Standing.{Standing, view_of}
use Rattle.def_paths.specs.Snapshots.{SnapshotShape}
use Rattle.def_paths.specs.Outcomes.{EndShape, WholeOutcome, reported}
use Rattle.run_ends.specs.declared.ends.EndState.{EndState}
use Rattle.run_ends.specs.declared.ends.RunEnd.{RunEnd}

-- the state is what stays of an activity over this code
pub record IsSnapshotOf (k : List Node) (x : EndState) (s : SnapshotShape) : Type 0 where
  pub term : Standing k (view_of x.machine) s.term (reverse s.services)
  pub store : store_of k x.store.cells ≡ s.store
  pub active : x.active ≡ s.active

-- each state is that of the activity at its number
abbrev pub AreSnapshotsOf : List Node → List EndState → List EndShape → Type 0
AreSnapshotsOf k [] [] = Unit {0}
AreSnapshotsOf k (x ∷ xs) (e ∷ es) = IsSnapshotOf k x e.snapshot × AreSnapshotsOf k xs es
AreSnapshotsOf k xs es = ⊥

-- the end of a run is a whole outcome: what a report says, the states over its code, and the filled futures
pub record IsEndOf (r : RunEnd) (o : WholeOutcome) : Type 0 where
  pub outcome : outcome_shape r.outcome ≡ reported o
  pub states : AreSnapshotsOf (arc_value r.code) r.states.items o.ends
  pub futures : values_of r.futures ≡ o.futures

abbrev pub is_service : Form → Bool
is_service form.Service = true
is_service f = false

-- the innermost frame, which stands first, waits for no term of the service that runs
abbrev pub none_waits : List Frame → Bool
none_waits [] = true
none_waits (f ∷ fs) = is_service f.form
