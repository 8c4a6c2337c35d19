use Rattle.law_steps.proofs.WakeLemmas.{others_stay_next}
use Rattle.law_steps.proofs.waking.others_stay_next.Goals as goal

pub returns : goal.returns
returns c = others_stay_next
