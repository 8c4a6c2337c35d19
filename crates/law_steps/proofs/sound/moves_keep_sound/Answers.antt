use Rattle.law_steps.proofs.WholeLemmas.{moves_keep_sound}
use Rattle.law_steps.proofs.sound.moves_keep_sound.Goals as goal

pub returns : goal.returns
returns c = moves_keep_sound
