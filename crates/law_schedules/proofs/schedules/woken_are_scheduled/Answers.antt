use Rattle.law_schedules.proofs.WokenLemmas.{woken_are_scheduled}
use Rattle.law_schedules.proofs.schedules.woken_are_scheduled.Goals as goal

pub returns : goal.returns
returns c = woken_are_scheduled
