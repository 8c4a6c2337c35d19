use Rattle.std.proofs.Common.{◌≤◌, ◌-◌, length, take}
use Rattle.code_table.specs.Cells.{ArePlain}
use Rattle.code_table.proofs.columns.Columns.are_plain.Given as goal

abbrev pub invariant-loop-at : goal.invariant-loop-at
invariant-loop-at l = record {
  within : l.at ≤ length l.self.items;
  plain : ArePlain (take l.at l.self.items);
}

abbrev pub decreases-loop-at : goal.decreases-loop-at
decreases-loop-at l = length l.self.items - l.at
