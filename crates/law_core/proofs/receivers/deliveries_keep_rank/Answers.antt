use Rattle.law_core.proofs.ReceiverLemmas.{deliveries_keep_rank}
use Rattle.law_core.proofs.receivers.deliveries_keep_rank.Goals as goal

pub returns : goal.returns
returns c = deliveries_keep_rank
