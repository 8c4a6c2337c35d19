use Rattle.law_schedules.proofs.EffectLemmas.{made_is_there}
use Rattle.law_schedules.proofs.effects.made_is_there.Goals as goal

pub returns : goal.returns
returns c = made_is_there
