use Rattle.checkpoint_text.specs.Reading.{cell}
use Rattle.checkpoint_reading.specs.Cells.{cell_shape}
use Rattle.checkpoint_items.proofs.ListLemmas.{AreRead}
use Rattle.checkpoint_reading.proofs.cells.read_cells.Given as goal

abbrev pub invariant-loop : goal.invariant-loop
invariant-loop l = AreRead cell cell_shape l.count l.initial.items l.counter l.cells.items l.items
