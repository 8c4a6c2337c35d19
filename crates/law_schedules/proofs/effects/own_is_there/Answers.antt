use Rattle.law_schedules.proofs.EffectLemmas.{own_is_there}
use Rattle.law_schedules.proofs.effects.own_is_there.Goals as goal

pub returns : goal.returns
returns c = own_is_there
