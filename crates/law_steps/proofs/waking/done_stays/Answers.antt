use Rattle.law_steps.proofs.WakeLemmas.{done_stays}
use Rattle.law_steps.proofs.waking.done_stays.Goals as goal

pub returns : goal.returns
returns c = done_stays
