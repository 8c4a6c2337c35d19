use Rattle.asp_model.specs.Shapes.{reception_shape}
use Rattle.checkpoint_text.specs.Reading.{reception}
use Rattle.checkpoint_items.proofs.ListLemmas.{AreRead}
use Rattle.checkpoint_files.proofs.activities.read_log.Given as goal

abbrev pub invariant-loop : goal.invariant-loop
invariant-loop l = AreRead reception reception_shape l.count l.initial.items l.counter l.log.items l.items
