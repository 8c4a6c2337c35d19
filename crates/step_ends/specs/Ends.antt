-- The ends of activities.
use Rattle.std.specs.Prelude.{◌≡◌, List, [], ◌∷◌, map}
use Rattle.std.specs.Global.{Box}
use Rattle.std.specs.List.{AllByRecursion}
use Rattle.asp_model.specs.declared.outcome.ActivityReport.{ActivityReport}
use Rattle.asp_model.specs.Names.{Name}
use Rattle.asp_model.specs.Chase.{Values, chase}
use Rattle.asp_model.specs.Configuration as model
use Rattle.asp_model.specs.Configuration.{ReceptionShape, RequestShape}
use Rattle.asp_model.specs.Intent.{intent}
use Rattle.asp_model.specs.Status.{status_of_intent}
use Rattle.asp_model.specs.Shapes.{activity_shape}
use Rattle.code_table.specs.declared.code.Node.{Node}
use Rattle.def_paths.specs.Snapshots.{snapshot_of}
use Rattle.def_paths.specs.Outcomes.{EndShape}
use Rattle.run_ends.specs.declared.ends.EndState.{EndState}
use Rattle.run_ends.specs.Ends.{AreSnapshotsOf, IsSnapshotOf}
use Rattle.step_activity.specs.declared.actor.Actor.{Actor}
use Rattle.step_activity.specs.Actors.{IsClosedFor, Stands, code_of, log_in}

-- the end of an activity that received these requests and has this log
abbrev pub end_with : Values → Name → model.Activity → List RequestShape → List ReceptionShape → EndShape
end_with values n a rs log = record {
  report = record {
    name = n;
    count = a.reductions;
    status = status_of_intent (intent (chase values) rs n a);
    senders = log;
    lines = a.lines;
  };
  snapshot = snapshot_of a;
}

-- a report and a state are those of an end, over this code
abbrev pub IsEndBy : List Node → EndShape → ActivityReport × EndState → Type 0
IsEndBy k e x = (activity_shape x.0 ≡ e.report) × IsSnapshotOf k x.1 e.snapshot

-- reports and states are those of ends, one by one
pub record AreEndsBy (k : List Node) (rs : List ActivityReport) (xs : List EndState) (es : List EndShape) : Type 0 where
  pub reports : map activity_shape rs ≡ map (λ e. e.report) es
  pub states : AreSnapshotsOf k xs es

-- the end of an activity that an actor stands for, which runs this code
pub record IsEndFor (k : List Node) (values : Values) (x : Name × Box Actor) (e : EndShape) : Type 0 where
  pub activity : model.Activity
  pub received : List RequestShape
  pub stands : Stands x.1.value activity received
  pub is : e ≡ end_with values x.0 activity received (log_in x.1.value)
  pub coded : code_of x.1.value ≡ k

abbrev pub AreEndsFor : List Node → Values → List (Name × Box Actor) → List EndShape → Type 0
AreEndsFor k values [] [] = Unit {0}
AreEndsFor k values [] (e ∷ es) = ⊥
AreEndsFor k values (x ∷ xs) [] = ⊥
AreEndsFor k values (x ∷ xs) (e ∷ es) = IsEndFor k values x e × AreEndsFor k values xs es

abbrev pub AreClosedStates : List (Name × Box Actor) → Type 0
AreClosedStates = AllByRecursion (λ x. IsClosedFor x.1.value)
