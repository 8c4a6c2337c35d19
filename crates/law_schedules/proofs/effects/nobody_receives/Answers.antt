use Rattle.law_schedules.proofs.EffectLemmas.{nobody_receives}
use Rattle.law_schedules.proofs.effects.nobody_receives.Goals as goal

pub returns : goal.returns
returns c = nobody_receives
