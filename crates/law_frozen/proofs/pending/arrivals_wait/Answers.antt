use Rattle.law_frozen.proofs.PendingLemmas.{arrivals_wait}
use Rattle.law_frozen.proofs.pending.arrivals_wait.Goals as goal

pub returns : goal.returns
returns c = arrivals_wait
