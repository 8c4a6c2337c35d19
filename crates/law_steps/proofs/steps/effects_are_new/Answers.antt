use Rattle.law_steps.proofs.FrameLemmas.{effects_are_new}
use Rattle.law_steps.proofs.steps.effects_are_new.Goals as goal

pub returns : goal.returns
returns c = effects_are_new
