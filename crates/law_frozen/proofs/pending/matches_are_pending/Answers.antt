use Rattle.law_frozen.proofs.PendingLemmas.{matches_are_pending}
use Rattle.law_frozen.proofs.pending.matches_are_pending.Goals as goal

pub returns : goal.returns
returns c = matches_are_pending
