use Rattle.std.proofs.Common.{◌≡◌, ◌&&◌, nat_lt, ℕ}
use Rattle.core_sets.specs.Marks.{IsTree, is_marked, room}
use Rattle.core_sets.proofs.marks.Marks.copy_to.Given as goal

abbrev pub invariant-loop-place : goal.invariant-loop-place
invariant-loop-place l = record {
  tree : IsTree l.larger;
  size : room l.larger ≡ room l.fn.larger;
  so_far : (p : ℕ) → is_marked l.larger p ≡ (nat_lt p l.place && is_marked l.fn.self p);
}
