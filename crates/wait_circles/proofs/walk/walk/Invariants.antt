use Rattle.std.proofs.Common.{◌≡◌, length}
use Rattle.wait_circles.specs.Walks.{fresh_in}
use Rattle.wait_circles.proofs.WalkLemmas.{Goes}
use Rattle.wait_circles.proofs.walk.walk.Given as goal

abbrev pub invariant-loop-marks : goal.invariant-loop-marks
invariant-loop-marks l = record {
  size : length l.marks ≡ length l.initial.marks;
  goes : Goes l.next l.initial.marks l.fn.from l.path.items l.at l.marks;
}

abbrev pub decreases-loop-marks : goal.decreases-loop-marks
decreases-loop-marks l = fresh_in l.marks
