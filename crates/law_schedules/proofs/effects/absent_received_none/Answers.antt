use Rattle.law_schedules.proofs.EffectLemmas.{absent_received_none}
use Rattle.law_schedules.proofs.effects.absent_received_none.Goals as goal

pub returns : goal.returns
returns c = absent_received_none
