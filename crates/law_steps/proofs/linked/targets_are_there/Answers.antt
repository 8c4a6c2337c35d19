use Rattle.law_steps.proofs.LinkedLemmas.{targets_are_there}
use Rattle.law_steps.proofs.linked.targets_are_there.Goals as goal

pub returns : goal.returns
returns c = targets_are_there
