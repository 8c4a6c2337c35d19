use Rattle.checkpoint_text.specs.Reading.{field}
use Rattle.checkpoint_reading.specs.Cells.{place_field}
use Rattle.checkpoint_items.proofs.ListLemmas.{AreRead}
use Rattle.checkpoint_reading.proofs.cells.read_places_named.Given as goal

abbrev pub invariant-loop : goal.invariant-loop
invariant-loop l = AreRead field place_field l.count l.initial.items l.counter l.fields.items l.items
