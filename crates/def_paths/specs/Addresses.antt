-- Places as lists of numbers, last number first: `i ∷ []` is a cell of the store, and `j ∷ p` a cell of the value
-- that is entered at `p`.
use Rattle.std.specs.Prelude.{ℕ, zero, suc, pos, List, [], ◌∷◌, Option, Some, None, map}
use Rattle.asp_model.specs.Store.{CellShape, Number, cell, reached}
use Rattle.asp_model.specs.Parcel.{ParcelShape}
use Rattle.def_paths.specs.Places.{Place, In_store, In_value, Side, part, entered_by, read_by}

-- the list that a place is
abbrev pub address_of : Place → List ℕ
address_of (In_store i) = i ∷ []
address_of (In_value p j) = j ∷ address_of p

-- the cell that is written there (`written`)
abbrev pub written_at : Side → List ℕ → CellShape
written_at a [] = Number (pos 0)
written_at a (i ∷ []) = cell a.store i
written_at a (j ∷ k ∷ p) = part (entered_by a.values (written_at a (k ∷ p))) j

-- the value that is entered there, if one is (`entered`)
abbrev pub entered_at : Side → List ℕ → Option ParcelShape
entered_at a p = entered_by a.values (written_at a p)

-- the cell that is read there (`read`)
abbrev pub read_at : Side → List ℕ → CellShape
read_at a p = read_by (written_at a p) (entered_at a p)

-- where a parcel is entered: its root stands there, its other cells below
abbrev pub below_entered : List ℕ → ℕ → List ℕ
below_entered p zero = p
below_entered p (suc c) = suc c ∷ p

-- the place of a child of the cell that is read
abbrev pub child_at : Option ParcelShape → List ℕ → ℕ → List ℕ
child_at (Some v) p c = below_entered p c
child_at None [] c = c ∷ []
child_at None (i ∷ []) c = c ∷ []
child_at None (j ∷ k ∷ q) c = below_entered (k ∷ q) c

-- the places to which the cell that is read there leads (`children`)
abbrev pub children_at : Side → List ℕ → List (List ℕ)
children_at a p = map (child_at (entered_at a p) p) (reached (read_at a p))
