use Rattle.std.proofs.Common.{◌≡◌, nat_eq, drop}
use Rattle.law_waits.specs.Courses.{items_after}
use Rattle.wait_circles.proofs.walk.after.Given as goal

abbrev pub invariant-loop-i : goal.invariant-loop-i
invariant-loop-i l = items_after nat_eq l.one l.path ≡ items_after nat_eq l.one (drop l.i l.path)
