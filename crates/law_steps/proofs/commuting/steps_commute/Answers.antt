use Rattle.law_steps.proofs.DiamondLemmas.{steps_commute}
use Rattle.law_steps.proofs.commuting.steps_commute.Goals as goal

pub returns : goal.returns
returns c = steps_commute
