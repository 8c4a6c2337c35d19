use Rattle.std.proofs.Common.{sym, subst}
use Rattle.request_queue.proofs.NumberLemmas.{Ascends, ascends_none}
use Rattle.request_queue.proofs.numbers.Numbers.new.Goals as goal

pub invariant_of-result : goal.invariant_of-result
invariant_of-result c = subst Ascends (sym c.new.ensures.items) ascends_none
