use Rattle.std.proofs.Common.{◌≡◌, drop, map}
use Rattle.std.specs.List.{list_all}
use Rattle.checkpoint_items.specs.Lines.{home_shape}
use Rattle.checkpoint_checks.specs.Maps.{activity_in, has_in}
use Rattle.checkpoint_checks.specs.Homes.{home_fits}
use Rattle.checkpoint_checks.proofs.homes.check_homes.Given as goal

abbrev pub invariant-loop-future : goal.invariant-loop-future
invariant-loop-future l = list_all (home_fits (activity_in l.names) (has_in l.standing)) (map home_shape (drop l.future-index l.homes)) ≡ list_all (home_fits (activity_in l.names) (has_in l.standing)) (map home_shape l.homes)
