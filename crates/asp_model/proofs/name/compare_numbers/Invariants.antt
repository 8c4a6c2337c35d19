use Rattle.std.proofs.Common.{◌≡◌, ◌-◌, ◌≤◌, length, drop}
use Rattle.asp_model.specs.Names.{name_cmp}
use Rattle.asp_model.proofs.name.compare_numbers.Given as goal

abbrev pub invariant-loop-i : goal.invariant-loop-i
invariant-loop-i l = record {
  left : l.i ≤ length l.left;
  right : l.i ≤ length l.right;
  rest : name_cmp l.left l.right ≡ name_cmp (drop l.i l.left) (drop l.i l.right);
}

abbrev pub decreases-loop-i : goal.decreases-loop-i
decreases-loop-i l = length l.left - l.i
