-- What stays of an activity at the end of a run, and what a path reads in it.
use Rattle.std.specs.Prelude.{ℕ, suc, List, ◌∷◌, ◌++◌, Option, Some, None}
use Rattle.std.specs.List.{flat_map}
use Rattle.asp_model.specs.Term.{Loc, Tree, node, locations}
use Rattle.asp_model.specs.Store.{CellShape, Store}
use Rattle.asp_model.specs.Chase.{Values}
use Rattle.asp_model.specs.Configuration.{ServiceShape, Activity}
use Rattle.asp_model.specs.Intent.{StatusShape, Done}
use Rattle.def_paths.specs.Places.{Side, side_of, found_at}
use Rattle.def_paths.specs.Agree.{places_in}
use Rattle.def_paths.specs.PathLabels.{PathLabel, from_by}

-- the state of an activity: its term, the services that wait, its store, and where its active object is
pub record SnapshotShape : Type 0 where
  pub term : Tree
  pub services : List ServiceShape
  pub store : Store
  pub active : ℕ

-- the state of an activity of a configuration
abbrev pub snapshot_of : Activity → SnapshotShape
snapshot_of a = record { term = a.term; services = a.services; store = a.store; active = a.active }

-- the active location, and each location of the term and of the services
abbrev pub roots_in : SnapshotShape → List ℕ
roots_in s = s.active ∷ (locations s.term ++ flat_map places_in s.services)

-- where a path begins
pub data Root : Type 0 where
  Active_object : Root
  -- the location that the term of an activity is that is done
  Result : Root
  -- the n-th location of the term and the services, in order, from 0
  Term_at : (number : ℕ) → Root

-- the location that the term is, where the status is Done
abbrev pub result_in : StatusShape → Tree → Option ℕ
result_in Done (node (Loc n) ts) = Some n
result_in status t = None

-- the number of the root after the active object's, if there is such a place
abbrev pub number_if : Option ℕ → Option ℕ
number_if None = None
number_if (Some place) = Some 1

-- the number of a root among all roots
abbrev pub root_number : StatusShape → SnapshotShape → Root → Option ℕ
root_number status s Active_object = Some 0
root_number status s Result = number_if (result_in status s.term)
root_number status s (Term_at n) = Some (suc n)

-- what a path finds from the root of that number, if there is one
abbrev pub read_from : Side → List ℕ → List PathLabel → Option ℕ → Option CellShape
read_from a roots path None = None
read_from a roots path (Some k) = found_at a (from_by a roots k path)

-- what a path finds from a root, with each filled future on the way read as unpacked at its place; none where the
-- root or a label is not there
abbrev pub read_path : Values → StatusShape → SnapshotShape → Root → List PathLabel → Option CellShape
read_path values status s root path = read_from (side_of values s.store) (roots_in s) path (root_number status s root)
