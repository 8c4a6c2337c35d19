use Rattle.law_steps.proofs.WakeLemmas.{awaiting_stays}
use Rattle.law_steps.proofs.waking.awaiting_stays.Goals as goal

pub returns : goal.returns
returns c = awaiting_stays
