use Rattle.checkpoint_text.specs.Reading.{request}
use Rattle.checkpoint_reading.specs.Cells.{request_shape}
use Rattle.checkpoint_items.proofs.ListLemmas.{AreRead}
use Rattle.checkpoint_reading.proofs.cells.read_requests.Given as goal

abbrev pub invariant-loop : goal.invariant-loop
invariant-loop l = AreRead request request_shape l.count l.initial.items l.counter l.requests.items l.items
