use Rattle.std.proofs.Common.{◌≡◌, ◌-◌, ◌≤◌, bytes_eq, drop, length}
use Rattle.code_table.specs.Places.{placed}
use Rattle.code_table.proofs.places.Places.is_same.Given as goal

abbrev pub invariant-loop-at : goal.invariant-loop-at
invariant-loop-at l = record {
  long : length (placed l.self) ≡ length (placed l.other);
  so_far : bytes_eq (drop l.at (placed l.self)) (drop l.at (placed l.other))
      ≡ bytes_eq (placed l.self) (placed l.other);
}

abbrev pub decreases-loop-at : goal.decreases-loop-at
decreases-loop-at l = length (placed l.self) - l.at
