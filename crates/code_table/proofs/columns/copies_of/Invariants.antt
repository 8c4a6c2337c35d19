use Rattle.std.proofs.Common.{take}
use Rattle.code_table.specs.Columns.{AreCopies}
use Rattle.code_table.proofs.columns.copies_of.Given as goal

abbrev pub invariant-loop-cell : goal.invariant-loop-cell
invariant-loop-cell l = AreCopies (take l.cell-index l.cells) l.copies.items
