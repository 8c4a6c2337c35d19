use Rattle.std.proofs.Common.{◌≡◌, ◌+◌, ◌≤◌, drop, map}
use Rattle.checkpoint_parts.specs.Shapes.{activity_shape}
use Rattle.checkpoint_checks.specs.Within.{counted}
use Rattle.run_files.proofs.files.have_counted.Given as goal

abbrev pub invariant-loop-activity : goal.invariant-loop-activity
invariant-loop-activity l =
    (counted (map activity_shape (drop l.activity-index l.activities)) + l.limit ≡ counted (map activity_shape l.activities) + l.left)
    × (l.left ≤ l.limit)
