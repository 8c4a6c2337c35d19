use Rattle.std.proofs.Common.{◌≡◌, ◌+◌, ◌-◌}
use Rattle.core_sets.specs.Marks.{IsTree, SameMarks, room}
use Rattle.core_sets.proofs.marks.Marks.reach.Given as goal

abbrev pub invariant-loop-room : goal.invariant-loop-room
invariant-loop-room l = record {
  tree : IsTree l.self;
  same : SameMarks l.fn.self l.self;
  size : l.room ≡ room l.self;
}

abbrev pub decreases-loop-room : goal.decreases-loop-room
decreases-loop-room l = l.place + 1 - l.room
