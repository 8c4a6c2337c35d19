use Rattle.law_steps.proofs.ReachedLemmas.{start_is_reached}
use Rattle.law_steps.proofs.reached.start_is_reached.Goals as goal

pub returns : goal.returns
returns c = start_is_reached
