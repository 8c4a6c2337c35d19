use Rattle.law_steps.proofs.DiamondLemmas.{free_steps_commute}
use Rattle.law_steps.proofs.commuting.free_steps_commute.Goals as goal

pub returns : goal.returns
returns c = free_steps_commute
