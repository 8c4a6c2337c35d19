use Rattle.law_schedules.proofs.EffectLemmas.{targets_receive}
use Rattle.law_schedules.proofs.effects.targets_receive.Goals as goal

pub returns : goal.returns
returns c = targets_receive
