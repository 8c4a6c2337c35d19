use Rattle.checkpoint_text.specs.Reading.{both, future, name}
use Rattle.checkpoint_items.specs.Lines.{home_shape}
use Rattle.checkpoint_items.proofs.ListLemmas.{AreRead}
use Rattle.checkpoint_items.proofs.lines.read_all_homes.Given as goal

abbrev pub invariant-loop : goal.invariant-loop
invariant-loop l = AreRead (both future name) home_shape l.count l.initial.items l.counter l.homes.items l.items
