use Rattle.law_core.proofs.ReceiverLemmas.{needs_keep_rank}
use Rattle.law_core.proofs.receivers.needs_keep_rank.Goals as goal

pub returns : goal.returns
returns c = needs_keep_rank
