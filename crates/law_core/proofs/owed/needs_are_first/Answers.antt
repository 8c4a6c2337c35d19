use Rattle.law_core.proofs.OwedLemmas.{needs_are_first}
use Rattle.law_core.proofs.owed.needs_are_first.Goals as goal

pub returns : goal.returns
returns c = needs_are_first
