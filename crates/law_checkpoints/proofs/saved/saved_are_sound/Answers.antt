use Rattle.law_checkpoints.proofs.AgainLemmas.{saved_are_sound}
use Rattle.law_checkpoints.proofs.saved.saved_are_sound.Goals as goal

pub returns : goal.returns
returns c = saved_are_sound
