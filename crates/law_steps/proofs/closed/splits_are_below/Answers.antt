use Rattle.law_steps.proofs.ClosedLaws.{splits_are_below}
use Rattle.law_steps.proofs.closed.splits_are_below.Goals as goal

pub returns : goal.returns
returns c = splits_are_below
