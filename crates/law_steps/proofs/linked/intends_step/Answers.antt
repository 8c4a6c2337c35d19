use Rattle.law_steps.proofs.LinkedLemmas.{intends_step}
use Rattle.law_steps.proofs.linked.intends_step.Goals as goal

pub returns : goal.returns
returns c = intends_step
