use Rattle.law_checkpoints.proofs.FirstLemmas.{frozen_are_first}
use Rattle.law_checkpoints.proofs.sound.frozen_are_first.Goals as goal

pub returns : goal.returns
returns c = frozen_are_first
