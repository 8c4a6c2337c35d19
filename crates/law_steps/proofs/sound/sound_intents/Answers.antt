use Rattle.law_steps.proofs.WholeLemmas.{sound_intents}
use Rattle.law_steps.proofs.sound.sound_intents.Goals as goal

pub returns : goal.returns
returns c = sound_intents
