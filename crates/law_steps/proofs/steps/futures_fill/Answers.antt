use Rattle.law_steps.proofs.FrameLemmas.{futures_fill}
use Rattle.law_steps.proofs.steps.futures_fill.Goals as goal

pub returns : goal.returns
returns c = futures_fill
