use Rattle.std.proofs.Common.{length, ◌-◌, ◌+◌, ◌≤◌}
use Rattle.explain.proofs.differences.text.push_activities.Given as goal

abbrev pub invariant-loop-number : goal.invariant-loop-number
invariant-loop-number l = (l.number ≤ length l.activities) × (l.other ≤ length l.others)

abbrev pub decreases-loop-number : goal.decreases-loop-number
decreases-loop-number l = (length l.activities - l.number) + (length l.others - l.other)
