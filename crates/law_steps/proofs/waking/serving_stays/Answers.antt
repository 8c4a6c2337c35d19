use Rattle.law_steps.proofs.WakeLemmas.{serving_stays}
use Rattle.law_steps.proofs.waking.serving_stays.Goals as goal

pub returns : goal.returns
returns c = serving_stays
