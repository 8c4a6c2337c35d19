use Rattle.request_queue.proofs.PendingLemmas.{served_leave}
use Rattle.request_queue.proofs.laws.served_leave.Goals as goal

pub returns : goal.returns
returns c = served_leave
