use Rattle.law_steps.proofs.FrameLemmas.{others_stay}
use Rattle.law_steps.proofs.steps.others_stay.Goals as goal

pub returns : goal.returns
returns c = others_stay
