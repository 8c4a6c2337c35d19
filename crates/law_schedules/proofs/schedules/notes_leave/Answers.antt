use Rattle.law_schedules.proofs.LeastLemmas.{notes_leave}
use Rattle.law_schedules.proofs.schedules.notes_leave.Goals as goal

pub returns : goal.returns
returns c = notes_leave
