use Rattle.std.proofs.Common.{◌≡◌, map, take}
use Rattle.checkpoint_parts.specs.Shapes.{activity_shape, checkpoint_shape}
use Rattle.checkpoint_actors.specs.Counts.{answered_count}
use Rattle.checkpoint_actors.proofs.counts.answered.Given as goal

abbrev pub invariant-loop-activity : goal.invariant-loop-activity
invariant-loop-activity l = l.answered.items ≡ map (answered_count (checkpoint_shape l.file)) (map activity_shape (take l.activity-index l.file.activities.items))
