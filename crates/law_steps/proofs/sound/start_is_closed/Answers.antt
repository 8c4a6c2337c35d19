use Rattle.law_steps.proofs.WholeLemmas.{start_is_closed}
use Rattle.law_steps.proofs.sound.start_is_closed.Goals as goal

pub returns : goal.returns
returns c = start_is_closed
