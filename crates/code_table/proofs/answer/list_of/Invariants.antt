use Rattle.std.proofs.Common.{◌≡◌, ◌≤◌, ◌-◌, length, map, take}
use Rattle.code_table.specs.Cells.{all_coded, span_of}
use Rattle.code_table.specs.Columns.{AreLaid}
use Rattle.code_table.specs.Shown.{kept}
use Rattle.code_table.proofs.answer.list_of.Given as goal

abbrev pub invariant-loop-at : goal.invariant-loop-at
invariant-loop-at l = record {
  within : l.at ≤ length l.cells.items;
  laid : AreLaid (length l.words.items) (map span_of (map kept l.shown.items));
  so_far : all_coded l.words.items (map kept l.shown.items) ≡ take l.at l.cells.items;
}

abbrev pub decreases-loop-at : goal.decreases-loop-at
decreases-loop-at l = length l.cells.items - l.at
