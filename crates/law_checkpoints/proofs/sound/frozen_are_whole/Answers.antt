use Rattle.law_checkpoints.proofs.FirstLemmas.{frozen_are_whole}
use Rattle.law_checkpoints.proofs.sound.frozen_are_whole.Goals as goal

pub returns : goal.returns
returns c = frozen_are_whole
