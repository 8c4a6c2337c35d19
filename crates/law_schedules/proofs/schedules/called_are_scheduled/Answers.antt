use Rattle.law_schedules.proofs.WokenLemmas.{called_are_scheduled}
use Rattle.law_schedules.proofs.schedules.called_are_scheduled.Goals as goal

pub returns : goal.returns
returns c = called_are_scheduled
