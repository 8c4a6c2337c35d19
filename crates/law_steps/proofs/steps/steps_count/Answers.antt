use Rattle.law_steps.proofs.FrameLemmas.{steps_count}
use Rattle.law_steps.proofs.steps.steps_count.Goals as goal

pub returns : goal.returns
returns c = steps_count
