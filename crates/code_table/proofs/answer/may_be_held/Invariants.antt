use Rattle.std.proofs.Common.{◌≡◌, ◌-◌, length, drop}
use Rattle.std.specs.List.{list_all}
use Rattle.code_table.specs.Shown.{may_hold}
use Rattle.code_table.proofs.answer.may_be_held.Given as goal

abbrev pub invariant-loop-at : goal.invariant-loop-at
invariant-loop-at l = record {
  all : l.size ≡ length l.cells.items;
  rest : list_all (may_hold (length l.cells.items)) l.cells.items
      ≡ list_all (may_hold (length l.cells.items)) (drop l.at l.cells.items);
}

abbrev pub decreases-loop-at : goal.decreases-loop-at
decreases-loop-at l = l.size - l.at
