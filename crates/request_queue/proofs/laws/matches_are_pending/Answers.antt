use Rattle.request_queue.proofs.PendingLemmas.{matches_are_pending}
use Rattle.request_queue.proofs.laws.matches_are_pending.Goals as goal

pub returns : goal.returns
returns c = matches_are_pending
