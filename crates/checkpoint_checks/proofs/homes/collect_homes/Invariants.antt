use Rattle.std.proofs.Common.{◌≡◌, drop, map}
use Rattle.checkpoint_items.specs.Lines.{home_shape}
use Rattle.checkpoint_checks.specs.Maps.{home_in, no_homes, with_homes}
use Rattle.checkpoint_checks.proofs.homes.collect_homes.Given as goal

abbrev pub invariant-loop-future : goal.invariant-loop-future
invariant-loop-future l = with_homes (home_in l.homes) (map home_shape (drop l.future-index l.pairs)) ≡ with_homes no_homes (map home_shape l.pairs)
