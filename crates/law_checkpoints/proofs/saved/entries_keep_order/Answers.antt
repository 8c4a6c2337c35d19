use Rattle.law_checkpoints.proofs.OrderLemmas.{entries_keep_order}
use Rattle.law_checkpoints.proofs.saved.entries_keep_order.Goals as goal

pub returns : goal.returns
returns c = entries_keep_order
