use Rattle.std.proofs.Common.{take}
use Rattle.wait_circles.specs.Walks.{IsSettledBy}
use Rattle.wait_circles.proofs.walk.settle.Given as goal

abbrev pub invariant-loop-k : goal.invariant-loop-k
invariant-loop-k l = IsSettledBy l.end (take l.k-index l.path) l.initial.marks l.marks
