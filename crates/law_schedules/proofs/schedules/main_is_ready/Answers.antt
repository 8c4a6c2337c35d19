use Rattle.law_schedules.proofs.LeastLemmas.{main_is_ready}
use Rattle.law_schedules.proofs.schedules.main_is_ready.Goals as goal

pub returns : goal.returns
returns c = main_is_ready
