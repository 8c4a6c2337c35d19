use Rattle.checkpoint_text.specs.Reading.{method}
use Rattle.checkpoint_reading.specs.Cells.{method_shape}
use Rattle.checkpoint_items.proofs.ListLemmas.{AreRead}
use Rattle.checkpoint_reading.proofs.cells.read_methods.Given as goal

abbrev pub invariant-loop : goal.invariant-loop
invariant-loop l = AreRead method method_shape l.count l.initial.items l.counter l.methods.items l.items
