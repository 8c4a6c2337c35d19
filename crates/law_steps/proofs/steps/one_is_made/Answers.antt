use Rattle.law_steps.proofs.FrameLemmas.{one_is_made}
use Rattle.law_steps.proofs.steps.one_is_made.Goals as goal

pub returns : goal.returns
returns c = one_is_made
