-- What a path reads.
use Rattle.std.specs.Prelude.{◌≡◌, ℕ, ℤ, true, false, List, [], ◌∷◌, ◌++◌, Option, Some, None, length, map, take, drop, slice_get}
use Rattle.std.specs.List.{flat_map}
use Rattle.asp_model.specs.Names.{Name, FutureShape, Text, same_text}
use Rattle.asp_model.specs.Shapes.{future_shape}
use Rattle.asp_model.specs.Store.{CellShape, MethodShape, moved_cell, reached}
use Rattle.asp_model.specs.Store as store
use Rattle.asp_model.specs.Term.{locations}
use Rattle.code_table.specs.declared.code.MethodCode.{MethodCode}
use Rattle.code_table.specs.Classes.{class_at}
use Rattle.code_table.specs.Shapes.{class_object}
use Rattle.code_table.specs.Places.{placed}
use Rattle.deep_copy.specs.Reached.{used_places}
use Rattle.def_paths.specs.Places.{Place, Side}
use Rattle.def_paths.specs.PathLabels.{PathLabel, To_field, To_member, To_captured, number_by}
use Rattle.def_paths.specs.Agree.{places_in}
use Rattle.def_paths.specs.Snapshots.{SnapshotShape}
use Rattle.def_paths.specs.Snapshots as roots
use Rattle.path_equal.specs.declared.labels.Root.{Root}
use Rattle.path_equal.specs.declared.labels.Root.TheVariants as root
use Rattle.path_equal.specs.declared.labels.PathLabel.TheVariants as label
use Rattle.path_equal.specs.declared.labels.PathLabel as labels
use Rattle.path_equal.specs.declared.reading.Found.{Found}
use Rattle.path_equal.specs.declared.reading.Found.TheVariants as found
use Rattle.run_ends.specs.declared.entered.At.{At}
use Rattle.state_lines.specs.declared.state.State.{State}
use Rattle.run_ends.specs.Reads.{IsAt}

-- What is found

pub data FoundShape : Type 0 where
  Number : (n : ℤ) → FoundShape
  -- an object: the labels of its fields, and its methods, with each place in a body set to 0
  Object : (fields : List Text) (methods : List MethodShape) → FoundShape
  Reference : (activity : Name) → FoundShape
  -- a group of so many members
  Group : (size : ℕ) → FoundShape
  Unfilled : (future : FutureShape) → FoundShape
  Nothing : FoundShape

-- what a path found, without places
abbrev pub found_of : Option CellShape → FoundShape
found_of None = Nothing
found_of (Some (store.Number n)) = Number n
found_of (Some (store.Object fields methods)) = Object (map (λ x. x.label) fields) methods
found_of (Some (store.Reference n)) = Reference n
found_of (Some (store.Future f)) = Unfilled f
found_of (Some (store.Group ns)) = Group (length ns)

-- what shows of a cell of code, which is no future
abbrev pub blank_found : CellShape → FoundShape
blank_found c = found_of (Some (moved_cell (λ n. 0) c))

abbrev pub found_shape : Found → FoundShape
found_shape (found.Number n) = Number n
found_shape (found.Object o k) = blank_found (class_object k.now (placed o.places) (class_at k.now o.class))
found_shape (found.Reference n) = Reference n.now
found_shape (found.Group size) = Group size
found_shape (found.Unfilled f) = Unfilled (future_shape f.now)
found_shape found.Nothing = Nothing

-- Paths

abbrev pub root_shape : Root → roots.Root
root_shape root.Active = roots.Active_object
root_shape root.Value = roots.Result
root_shape (root.TermAt n) = roots.Term_at n

-- the locations of the term, then of the services
abbrev pub term_places : SnapshotShape → List ℕ
term_places s = locations s.term ++ flat_map places_in s.services

-- the cell of a root
abbrev pub root_in : State → SnapshotShape → Root → Option ℕ
root_in s snapshot root.Active = Some s.active
root_in s snapshot root.Value = s.result
root_in s snapshot (root.TermAt n) = slice_get (term_places snapshot) n

abbrev pub label_shape : labels.PathLabel → PathLabel
label_shape (label.Field l) = To_field l.text
label_shape (label.Member n) = To_member n
label_shape (label.Captured m n) = To_captured m.text n

abbrev pub labels_shape : List labels.PathLabel → List PathLabel
labels_shape ls = map label_shape ls

-- Children

abbrev pub nth_of : List ℕ → Option ℕ → Option ℕ
nth_of xs None = None
nth_of xs (Some n) = slice_get xs n

-- the cell to which a label leads from what is read
abbrev pub child_cell : CellShape → PathLabel → Option ℕ
child_cell c t = nth_of (reached c) (number_by c t)

-- the number of a place that the first method with this label captured, among these places
abbrev pub captured_in : Text → ℕ → List MethodCode → List ℕ → Option ℕ
captured_in l k [] ns = None
captured_in l k (m ∷ ms) ns = elim (same_text l m.label.text) [
  | true ↦ slice_get (used_places (take (length m.captured.items) ns) m.uses.items) k
  | false ↦ captured_in l k ms (drop (length m.captured.items) ns)
]

-- one reads at the child, or there is none
abbrev pub IsAtChild : Side → Option At → Option Place → Type 0
IsAtChild a None o = o ≡ None
IsAtChild a (Some x) o = (q : Place) × (o ≡ Some q) × IsAt a x q
