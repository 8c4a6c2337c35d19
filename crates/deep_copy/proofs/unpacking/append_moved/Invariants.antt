use Rattle.std.proofs.Common.{◌≡◌, ◌≤◌, ◌-◌, length}
use Rattle.code_table.specs.Moves.{move_of}
use Rattle.deep_copy.proofs.GraftLemmas.{appended}
use Rattle.deep_copy.proofs.unpacking.append_moved.Given as goal

abbrev pub invariant-loop-at : goal.invariant-loop-at
invariant-loop-at l = record {
  first : l.before ≡ length l.fn.store.cells;
  within : l.from ≤ l.at;
  so_far : l.store.cells ≡ appended (move_of l.moves) l.fn.store.cells l.cells.items l.from l.at;
}

abbrev pub decreases-loop-at : goal.decreases-loop-at
decreases-loop-at l = length l.cells.items - l.at
