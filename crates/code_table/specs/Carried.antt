-- What contracts see of the cells of a parcel.
use Rattle.std.specs.Prelude.{◌≡◌, ◌≤◌, ◌<◌, ℕ, [], ◌∷◌, length, Option, Some, None}
use Rattle.std.specs.Arc.{arc_value}
use Rattle.code_table.specs.Cells.{ArePlain, CodedStore, IsBare, bare, cell_at, coded}
use Rattle.code_table.specs.declared.cells.View.{View}
use Rattle.code_table.specs.declared.carried.Held.{Held}
use Rattle.code_table.specs.declared.carried.Held.TheVariants as held

-- the cells, in order
pub record CellsView : Type 0 where
  pub items : CodedStore

abbrev pub cells_view : Held → CellsView
cells_view (held.One cell) = record { items = bare cell ∷ [] }
cells_view (held.Few columns) = record { items = columns.items }
cells_view (held.Shared columns) = record { items = (arc_value columns).items }
cells_view (held.Plain columns) = record { items = (arc_value columns).items }

-- one cell alone has no words, and none of plain ones is a future
abbrev pub AreCells : Held → Type 0
AreCells (held.One cell) = IsBare cell
AreCells (held.Plain columns) = ArePlain (arc_value columns).items
AreCells h = Unit {0}

-- the cell at a place, where there is one
abbrev pub IsGot : CodedStore → ℕ → Option View → Type 0
IsGot s n None = length s ≤ n
IsGot s n (Some v) = (n < length s) × (coded v ≡ cell_at s n)
