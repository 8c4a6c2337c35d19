use Rattle.law_schedules.proofs.EffectLemmas.{others_receive_none}
use Rattle.law_schedules.proofs.effects.others_receive_none.Goals as goal

pub returns : goal.returns
returns c = others_receive_none
