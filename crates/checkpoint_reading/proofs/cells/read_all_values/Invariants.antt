use Rattle.checkpoint_text.specs.Reading.{both, future, parcel}
use Rattle.checkpoint_reading.specs.Cells.{value_shape}
use Rattle.checkpoint_items.proofs.ListLemmas.{AreRead}
use Rattle.checkpoint_reading.proofs.cells.read_all_values.Given as goal

abbrev pub invariant-loop : goal.invariant-loop
invariant-loop l = AreRead (both future parcel) value_shape l.count l.initial.items l.counter l.values.items l.items
