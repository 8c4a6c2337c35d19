use Rattle.law_steps.proofs.WholeLemmas.{sound_steps}
use Rattle.law_steps.proofs.sound.sound_steps.Goals as goal

pub returns : goal.returns
returns c = sound_steps
