-- The lines that show an activity's state to a depth: its active object, then its result where it is done.
use Rattle.std.specs.Prelude.{ℕ, zero, suc, ◌==◌, ◌&&◌, Bool, true, false, List, [], ◌∷◌, ◌++◌, Option, Some, None, length, codes}
use Rattle.std.specs.List.{flat_map}
use Rattle.std.specs.Fmt.{decimal, signed_decimal}
use Rattle.asp_model.specs.Store.{Field, CellShape, Number, Object, Reference, Future, Group}
use Rattle.asp_model.specs.Chase.{Values}
use Rattle.asp_model.specs.Intent.{StatusShape}
use Rattle.asp_model.specs.Report.{name_text, future_text}
use Rattle.def_paths.specs.Places.{Place, In_store, In_value, Side, found, children, side_of}
use Rattle.def_paths.specs.Snapshots.{SnapshotShape, result_in}

-- they are one place
abbrev pub same_place : Place → Place → Bool
same_place (In_store i) (In_store j) = i == j
same_place (In_value p i) (In_value q j) = (i == j) && same_place p q
same_place p q = false

-- a path as it is written
abbrev pub Path : Type 0
Path = List ℕ

-- objects and groups: the others show no place twice
abbrev pub is_compound : CellShape → Bool
is_compound (Object fields methods) = true
is_compound (Group ns) = true
is_compound c = false

-- a cell as it is written: what it is, its number, name, labels or size
abbrev pub what_text : CellShape → List ℕ
what_text (Number z) = codes "number " ++ signed_decimal z
what_text (Reference n) = codes "ref " ++ name_text n
what_text (Future f) = codes "future " ++ future_text f
what_text (Object fields methods) = codes "object" ++ flat_map (λ x. codes " " ++ x.label) fields
    ++ codes " ;" ++ flat_map (λ m. codes " " ++ m.head.label) methods
what_text (Group ns) = codes "group " ++ decimal (length ns)

-- a line of a state: a path and what is found there
abbrev pub state_line : Path → List ℕ → List ℕ
state_line path what = codes ". " ++ path ++ codes " " ++ what

-- the objects and groups that are shown already, each with its path, and the lines so far
pub record Shown : Type 0 where
  pub places : List (Place × Path)
  pub lines : List (List ℕ)

-- the path of a place that is shown already
abbrev pub path_of : Place → List (Place × Path) → Option Path
path_of p [] = None
path_of p (x ∷ xs) = elim (same_place p x.0) [ true ↦ Some x.1 | false ↦ path_of p xs ]

-- one line more
abbrev pub with_line : Path → List ℕ → Shown → Shown
with_line path what w = record w { lines = w.lines ++ state_line path what ∷ [] }

-- one line more, of an object or group that is shown now
abbrev pub with_place : Place → Path → List ℕ → Shown → Shown
with_place p path what w = record {
  places = w.places ++ (p, path) ∷ [];
  lines = w.lines ++ state_line path what ∷ [];
}

-- the fields of an object with their paths
abbrev pub by_labels : Path → List Field → List Place → List (Path × Place)
by_labels path [] ps = []
by_labels path (x ∷ xs) [] = []
by_labels path (x ∷ xs) (p ∷ ps) = (path ++ codes "." ++ x.label, p) ∷ by_labels path xs ps

-- the members of a group, from this number on
abbrev pub by_numbers : Path → ℕ → List Place → List (Path × Place)
by_numbers path n [] = []
by_numbers path n (p ∷ ps) = (path ++ codes "." ++ decimal n, p) ∷ by_numbers path (suc n) ps

-- what is shown below a cell: the fields of an object, the members of a group, each with its path
abbrev pub shown_below : Path → CellShape → List Place → List (Path × Place)
shown_below path (Object fields methods) ps = by_labels path fields ps
shown_below path (Group ns) ps = by_numbers path 0 ps
shown_below path c ps = []

-- one place after another
abbrev pub show_each : (Path → Place → Shown → Shown) → List (Path × Place) → Shown → Shown
show_each show [] w = w
show_each show (x ∷ xs) w = show_each show xs (show x.0 x.1 w)

-- a place with its path; `next` shows what is below it
abbrev pub show_place : (List (Path × Place) → Shown → Shown) → Side → Path → Place → Shown → Shown
show_place next a path p w = elim (is_compound (found a p)) [
  | false ↦ with_line path (what_text (found a p)) w
  | true ↦ elim (path_of p w.places) [
    | Some first ↦ with_line path (codes "same " ++ first) w
    | None ↦ next (shown_below path (found a p) (children a p)) (with_place p path (what_text (found a p)) w)
  ]
]

-- depth first, down to this depth below the place
abbrev pub show_to : ℕ → Side → Path → Place → Shown → Shown
show_to zero a path p w = show_place (λ below z. z) a path p w
show_to (suc d) a path p w = show_place (show_each (show_to d a)) a path p w

-- the result of an activity that is done, if it has one
abbrev pub show_result : ℕ → Side → Option ℕ → Shown → Shown
show_result d a None w = w
show_result d a (Some place) w = show_to d a (codes "value") (In_store place) w

-- the active object, then the result
abbrev pub state_shown : ℕ → Side → ℕ → Option ℕ → Shown
state_shown d a active result = show_result d a result (show_to d a (codes "self") (In_store active) (record { places = []; lines = [] }))

-- the lines that show the state of an activity to a depth
abbrev pub state_lines : ℕ → Values → StatusShape → SnapshotShape → List (List ℕ)
state_lines d values status s = (state_shown d (side_of values s.store) s.active (result_in status s.term)).lines
