use Rattle.asp_model.specs.Shapes.{line_shape}
use Rattle.checkpoint_text.specs.Reading.{output}
use Rattle.checkpoint_items.proofs.ListLemmas.{AreRead}
use Rattle.checkpoint_files.proofs.activities.read_outputs.Given as goal

abbrev pub invariant-loop : goal.invariant-loop
invariant-loop l = AreRead output line_shape l.count l.initial.items l.counter l.lines.items l.items
