use Rattle.law_steps.proofs.ClosedLaws.{copies_are_closed}
use Rattle.law_steps.proofs.closed.copies_are_closed.Goals as goal

pub returns : goal.returns
returns c = copies_are_closed
