use Rattle.law_core.proofs.OwedLemmas.{edges_are_first}
use Rattle.law_core.proofs.owed.edges_are_first.Goals as goal

pub returns : goal.returns
returns c = edges_are_first
