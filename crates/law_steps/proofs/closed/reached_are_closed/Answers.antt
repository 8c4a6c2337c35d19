use Rattle.law_steps.proofs.ClosedLaws.{reached_are_closed}
use Rattle.law_steps.proofs.closed.reached_are_closed.Goals as goal

pub returns : goal.returns
returns c = reached_are_closed
