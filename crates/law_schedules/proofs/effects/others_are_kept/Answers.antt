use Rattle.law_schedules.proofs.EffectLemmas.{others_are_kept}
use Rattle.law_schedules.proofs.effects.others_are_kept.Goals as goal

pub returns : goal.returns
returns c = others_are_kept
