use Rattle.std.proofs.Common.{◌≡◌, map, take}
use Rattle.checkpoint_items.specs.Lines.{home_shape}
use Rattle.checkpoint_actors.specs.Counts.{count_in, counts_of}
use Rattle.checkpoint_actors.proofs.counts.count_homes.Given as goal

abbrev pub invariant-loop-home : goal.invariant-loop-home
invariant-loop-home l = count_in l.counts ≡ counts_of (map home_shape (take l.home-index l.homes))
