use Rattle.std.proofs.Common.{◌≡◌, map, take}
use Rattle.outcome_search.proofs.LogLemmas.{row}
use Rattle.outcome_search.proofs.copies.copy_lists.Given as goal

abbrev pub invariant-loop-entry : goal.invariant-loop-entry
invariant-loop-entry l = map row l.entries.items ≡ map row (take l.entry-index l.lists.entries.items)
