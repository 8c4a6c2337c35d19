use Rattle.law_frozen.proofs.PendingLemmas.{serves_are_same}
use Rattle.law_frozen.proofs.pending.serves_are_same.Goals as goal

pub returns : goal.returns
returns c = serves_are_same
