use Rattle.law_steps.proofs.SenderLemmas.{one_sender_ends}
use Rattle.law_steps.proofs.joins.one_sender_ends.Goals as goal

pub returns : goal.returns
returns c = one_sender_ends
