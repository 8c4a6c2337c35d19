use Rattle.law_steps.proofs.WholeLemmas.{reached_are_sound}
use Rattle.law_steps.proofs.sound.reached_are_sound.Goals as goal

pub returns : goal.returns
returns c = reached_are_sound
