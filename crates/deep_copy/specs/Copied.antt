-- Cells as they are copied, and what stays so of a store.
use Rattle.std.specs.Prelude.{ℕ}
use Rattle.std.specs.Arc.{arc_value}
use Rattle.law_steps.specs.Closed.{IsClosedStore}
use Rattle.code_table.specs.declared.cells.Parcel.{Parcel}
use Rattle.code_table.specs.Cells.{CodedCell, CodedStore, cell_at, moved_coded}
use Rattle.code_table.specs.Fits.{AllFitCode}
use Rattle.code_table.specs.Shapes.{store_of}
use Rattle.code_table.specs.declared.moves.Moves.{Moves}
use Rattle.code_table.specs.Moves.{move_of}

-- the cell at a place, with its places moved
abbrev pub copied_cell : Moves → CodedStore → ℕ → CodedCell
copied_cell moves s p = moved_coded (move_of moves) (cell_at s p)

-- a store is closed under the code of a parcel
abbrev pub IsClosedWith : Parcel → CodedStore → Type 0
IsClosedWith p s = IsClosedStore (store_of (arc_value p.code) s)

-- objects that fit the code of a parcel still do, if the parcel's do
abbrev pub KeepsFit : Parcel → (old new : CodedStore) → Type 0
KeepsFit p old new = AllFitCode (arc_value p.code) p.cells.items → AllFitCode (arc_value p.code) old → AllFitCode (arc_value p.code) new
