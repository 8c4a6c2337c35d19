use Rattle.law_steps.proofs.WholeLemmas.{moves_keep_closed}
use Rattle.law_steps.proofs.sound.moves_keep_closed.Goals as goal

pub returns : goal.returns
returns c = moves_keep_closed
