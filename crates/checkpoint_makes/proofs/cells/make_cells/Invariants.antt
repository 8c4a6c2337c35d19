use Rattle.std.proofs.Common.{◌≡◌, ◌++◌, map}
use Rattle.checkpoint_reading.specs.Cells.{cell_shape}
use Rattle.checkpoint_makes.specs.Later.{AreMadeFrom}
use Rattle.checkpoint_makes.proofs.cells.make_cells.Given as goal

abbrev pub invariant-loop-cell : goal.invariant-loop-cell
invariant-loop-cell l = record {
  made : AreMadeFrom l.initial.nodes.items l.nodes.items l.columns.items (map cell_shape l.yielded);
  whole : l.fn.cells.items ≡ l.yielded ++ l.cell-iterator.rest.items;
}
