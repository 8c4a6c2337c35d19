use Rattle.std.proofs.Common.{◌≡◌, drop, map}
use Rattle.std.specs.List.{list_all}
use Rattle.checkpoint_parts.specs.Shapes.{activity_shape}
use Rattle.checkpoint_checks.specs.Maps.{home_in}
use Rattle.checkpoint_checks.specs.Homes.{all_housed}
use Rattle.checkpoint_checks.proofs.homes.check_all_sends.Given as goal

abbrev pub invariant-loop-activity : goal.invariant-loop-activity
invariant-loop-activity l = list_all (all_housed (home_in l.homes)) (map activity_shape (drop l.activity-index l.activities)) ≡ list_all (all_housed (home_in l.homes)) (map activity_shape l.activities)
