use Rattle.law_frozen.proofs.PendingLemmas.{served_leave}
use Rattle.law_frozen.proofs.pending.served_leave.Goals as goal

pub returns : goal.returns
returns c = served_leave
