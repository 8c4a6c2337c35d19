use Rattle.law_steps.proofs.ClosedLaws.{values_are_closed}
use Rattle.law_steps.proofs.closed.values_are_closed.Goals as goal

pub returns : goal.returns
returns c = values_are_closed
