use Rattle.std.proofs.Common.{◌≡◌, ◌-◌, length, take}
use Rattle.code_table.specs.Shown.{answer_items}
use Rattle.code_table.proofs.answer.are_same.Given as goal

abbrev pub invariant-loop-at : goal.invariant-loop-at
invariant-loop-at l = take l.at (answer_items l.answer) ≡ take l.at l.cells.items

abbrev pub decreases-loop-at : goal.decreases-loop-at
decreases-loop-at l = length l.cells.items - l.at
