use Rattle.law_steps.proofs.FrameLemmas.{listed_steps}
use Rattle.law_steps.proofs.steps.listed_is_free.Goals as goal

pub returns : goal.returns
returns c = listed_steps
