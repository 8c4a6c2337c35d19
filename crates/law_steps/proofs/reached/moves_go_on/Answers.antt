use Rattle.law_steps.proofs.ReachedLemmas.{moves_go_on}
use Rattle.law_steps.proofs.reached.moves_go_on.Goals as goal

pub returns : goal.returns
returns c = moves_go_on
