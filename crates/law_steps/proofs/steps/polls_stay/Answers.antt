use Rattle.law_steps.proofs.FrameLemmas.{polls_stay}
use Rattle.law_steps.proofs.steps.polls_stay.Goals as goal

pub returns : goal.returns
returns c = polls_stay
