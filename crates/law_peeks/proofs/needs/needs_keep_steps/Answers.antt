use Rattle.law_peeks.proofs.StepLemmas.{needs_keep_steps}
use Rattle.law_peeks.proofs.needs.needs_keep_steps.Goals as goal

pub returns : goal.returns
returns c = needs_keep_steps
