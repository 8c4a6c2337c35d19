use Rattle.law_steps.proofs.LinkedLemmas.{stuck_is_still}
use Rattle.law_steps.proofs.linked.stuck_is_still.Goals as goal

pub returns : goal.returns
returns c = stuck_is_still
