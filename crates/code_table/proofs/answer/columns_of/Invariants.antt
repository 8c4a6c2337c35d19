use Rattle.std.proofs.Common.{◌≡◌, ◌-◌, length, take}
use Rattle.code_table.specs.Shown.{answer_items}
use Rattle.code_table.proofs.answer.columns_of.Given as goal

abbrev pub invariant-loop-at : goal.invariant-loop-at
invariant-loop-at l = l.columns.items ≡ take l.at (answer_items l.answer)

abbrev pub decreases-loop-at : goal.decreases-loop-at
decreases-loop-at l = length (answer_items l.answer) - l.at
