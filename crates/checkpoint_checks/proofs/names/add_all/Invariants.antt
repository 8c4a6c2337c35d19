use Rattle.std.proofs.Common.{◌≡◌, drop, map}
use Rattle.checkpoint_parts.specs.Shapes.{activity_shape}
use Rattle.checkpoint_checks.specs.Maps.{activity_in, with_activities}
use Rattle.checkpoint_checks.specs.Names.{are_created}
use Rattle.checkpoint_checks.proofs.names.add_all.Given as goal

abbrev pub invariant-loop-activity : goal.invariant-loop-activity
invariant-loop-activity l =
    (with_activities (activity_in l.names) (map activity_shape (drop l.activity-index l.activities)) ≡ with_activities (activity_in l.initial.names) (map activity_shape l.activities))
    × (are_created (activity_in l.names) (map activity_shape (drop l.activity-index l.activities)) ≡ are_created (activity_in l.initial.names) (map activity_shape l.activities))
