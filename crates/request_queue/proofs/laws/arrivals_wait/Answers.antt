use Rattle.request_queue.proofs.PendingLemmas.{arrivals_wait}
use Rattle.request_queue.proofs.laws.arrivals_wait.Goals as goal

pub returns : goal.returns
returns c = arrivals_wait
