use Rattle.std.proofs.Common.{◌≡◌, take}
use Rattle.outcome_search.proofs.copies.copy_counts.Given as goal

abbrev pub invariant-loop-entry : goal.invariant-loop-entry
invariant-loop-entry l = l.entries.items ≡ take l.entry-index l.counts.entries.items
