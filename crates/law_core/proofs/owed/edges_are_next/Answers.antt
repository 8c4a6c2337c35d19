use Rattle.law_core.proofs.OwedLemmas.{edges_are_next}
use Rattle.law_core.proofs.owed.edges_are_next.Goals as goal

pub returns : goal.returns
returns c = edges_are_next
