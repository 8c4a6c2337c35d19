use Rattle.law_steps.proofs.FrameLemmas.{requests_grow}
use Rattle.law_steps.proofs.steps.requests_grow.Goals as goal

pub returns : goal.returns
returns c = requests_grow
