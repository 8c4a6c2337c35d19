use Rattle.law_steps.proofs.WakeLemmas.{cycles_stay}
use Rattle.law_steps.proofs.waking.cycles_stay.Goals as goal

pub returns : goal.returns
returns c = cycles_stay
