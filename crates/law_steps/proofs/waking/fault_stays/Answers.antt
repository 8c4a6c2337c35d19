use Rattle.law_steps.proofs.WakeLemmas.{fault_stays}
use Rattle.law_steps.proofs.waking.fault_stays.Goals as goal

pub returns : goal.returns
returns c = fault_stays
