use Rattle.std.proofs.Common.{◌≡◌, drop, map}
use Rattle.std.specs.List.{list_all}
use Rattle.checkpoint_parts.specs.Shapes.{activity_shape}
use Rattle.checkpoint_checks.specs.Maps.{activity_in}
use Rattle.checkpoint_checks.specs.Names.{all_named}
use Rattle.checkpoint_checks.proofs.names.check_all_creations.Given as goal

abbrev pub invariant-loop-activity : goal.invariant-loop-activity
invariant-loop-activity l = list_all (all_named (activity_in l.names)) (map activity_shape (drop l.activity-index l.activities)) ≡ list_all (all_named (activity_in l.names)) (map activity_shape l.activities)
