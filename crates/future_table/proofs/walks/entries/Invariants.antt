use Rattle.std.proofs.Common.{◌≡◌, ◌≤◌, drop, length}
use Rattle.future_table.specs.Values.{filled_of, lent_entries}
use Rattle.future_table.proofs.walks.entries.Given as goal

abbrev pub invariant-loop-left : goal.invariant-loop-left
invariant-loop-left l = (l.left ≤ length l.walks.values.items) × (lent_entries l.entries.entries ≡ filled_of (drop l.left l.walks.numbers) (drop l.left l.walks.values.items))

abbrev pub decreases-loop-left : goal.decreases-loop-left
decreases-loop-left l = l.left
