use Rattle.law_schedules.proofs.LeastLemmas.{none_is_ready}
use Rattle.law_schedules.proofs.schedules.none_is_ready.Goals as goal

pub returns : goal.returns
returns c = none_is_ready
