use Rattle.law_steps.proofs.FrameLemmas.{intends_stay}
use Rattle.law_steps.proofs.steps.intends_stay.Goals as goal

pub returns : goal.returns
returns c = intends_stay
