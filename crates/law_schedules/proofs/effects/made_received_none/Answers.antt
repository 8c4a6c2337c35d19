use Rattle.law_schedules.proofs.EffectLemmas.{made_received_none}
use Rattle.law_schedules.proofs.effects.made_received_none.Goals as goal

pub returns : goal.returns
returns c = made_received_none
