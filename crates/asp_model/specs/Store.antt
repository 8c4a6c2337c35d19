-- Stores: finite maps from the numbers below their size to cells, kept as the list of the cells.
use Rattle.std.specs.Prelude.{ℕ, ℤ, pos, zero, suc, List, [], ◌∷◌, ◌++◌, map}
use Rattle.std.specs.List.{flat_map}
use Rattle.asp_model.specs.Names.{Name, FutureShape, Text}
use Rattle.asp_model.specs.Term.{MethodHead, Tree, moved, locations}

-- a method, with locations in place of the variables that were bound round its object
pub record MethodShape : Type 0 where
  pub head : MethodHead
  pub body : Tree

-- a field of an object: its label, and the place of its value
pub record Field : Type 0 where
  pub label : Text
  pub place : ℕ

-- what stands at a place: a number, an object, an activity, a future, or a group of places
pub data CellShape : Type 0 where
  Number : (n : ℤ) → CellShape
  Object : (fields : List Field) (methods : List MethodShape) → CellShape
  Reference : (activity : Name) → CellShape
  Future : (future : FutureShape) → CellShape
  Group : (members : List ℕ) → CellShape

-- the cells by their numbers, from 0
abbrev pub Store : Type 0
Store = List CellShape

-- the cell at a place; no term of a run asks past the end
abbrev pub cell : Store → ℕ → CellShape
cell [] n = Number (pos 0)
cell (c ∷ cs) zero = c
cell (c ∷ cs) (suc n) = cell cs n

-- the store with another cell at a place
abbrev pub with_cell : Store → ℕ → CellShape → Store
with_cell [] n d = []
with_cell (c ∷ cs) zero d = d ∷ cs
with_cell (c ∷ cs) (suc n) d = c ∷ with_cell cs n d

-- the cell with f of each place
abbrev pub moved_cell : (ℕ → ℕ) → CellShape → CellShape
moved_cell f (Object fields methods) = Object
    (map (λ x. record { label = x.label; place = f x.place }) fields)
    (map (λ m. record { head = m.head; body = moved f m.body }) methods)
moved_cell f (Group ns) = Group (map f ns)
moved_cell f c = c

-- what is reached from a cell: an object's fields, then its methods' locations; a group's members
abbrev pub reached : CellShape → List ℕ
reached (Object fields methods) = map (λ x. x.place) fields ++ flat_map (λ m. locations m.body) methods
reached (Group ns) = ns
reached c = []
