use Rattle.law_steps.proofs.WakeLemmas.{none_rests_running}
use Rattle.law_steps.proofs.waking.none_rests_running.Goals as goal

pub returns : goal.returns
returns c = none_rests_running
