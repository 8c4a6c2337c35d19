use Rattle.law_schedules.proofs.LeastLemmas.{least_steps}
use Rattle.law_schedules.proofs.schedules.least_steps.Goals as goal

pub returns : goal.returns
returns c = least_steps
