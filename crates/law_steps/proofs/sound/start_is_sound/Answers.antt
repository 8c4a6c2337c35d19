use Rattle.law_steps.proofs.WholeLemmas.{start_is_sound}
use Rattle.law_steps.proofs.sound.start_is_sound.Goals as goal

pub returns : goal.returns
returns c = start_is_sound
