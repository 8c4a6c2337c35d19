use Rattle.std.proofs.Common.{◌≤◌, drop, length}
use Rattle.state_lines.specs.Below.{Pushes, StaySpots, members_below, place_in}
use Rattle.state_lines.proofs.below.push_members.Given as goal

abbrev pub invariant-loop-left : goal.invariant-loop-left
invariant-loop-left l = record {
  within : l.left ≤ length l.members;
  pending : Pushes l.parent l.fn.due.items l.due.items (members_below l.parent.path.now (place_in l.parent) l.left (drop l.left l.members));
  spots : StaySpots l.parent l.fn.due.items l.due.items;
}

abbrev pub decreases-loop-left : goal.decreases-loop-left
decreases-loop-left l = l.left
