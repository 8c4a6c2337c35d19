use Rattle.law_schedules.proofs.LeastLemmas.{resters_leave}
use Rattle.law_schedules.proofs.schedules.resters_leave.Goals as goal

pub returns : goal.returns
returns c = resters_leave
