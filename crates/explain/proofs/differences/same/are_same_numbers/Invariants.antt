use Rattle.std.proofs.Common.{◌≡◌, map, take}
use Rattle.explain.proofs.differences.same.are_same_numbers.Given as goal

abbrev pub invariant-loop-i : goal.invariant-loop-i
invariant-loop-i l = map (λ x. x) (take l.i l.counts) ≡ map (λ x. x) (take l.i l.others)
