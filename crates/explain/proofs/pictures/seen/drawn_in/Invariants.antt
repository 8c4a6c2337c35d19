use Rattle.std.proofs.Common.{◌≤◌, length}
use Rattle.explain.proofs.pictures.seen.drawn_in.Given as goal

abbrev pub invariant-loop-number : goal.invariant-loop-number
invariant-loop-number l = length l.drawn.items ≤ l.number
