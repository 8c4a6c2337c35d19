use Rattle.checkpoint_text.specs.Reading.{service}
use Rattle.checkpoint_parts.specs.Shapes.{service_shape}
use Rattle.checkpoint_items.proofs.ListLemmas.{AreRead}
use Rattle.checkpoint_files.proofs.activities.read_services.Given as goal

abbrev pub invariant-loop : goal.invariant-loop
invariant-loop l = AreRead service service_shape l.count l.initial.items l.counter l.services.items l.items
