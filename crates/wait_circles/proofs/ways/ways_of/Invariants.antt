use Rattle.wait_circles.specs.Walks.{IsFound}
use Rattle.wait_circles.proofs.ways.ways_of.Given as goal

abbrev pub invariant-loop-from : goal.invariant-loop-from
invariant-loop-from l = IsFound l.next l.found l.from
