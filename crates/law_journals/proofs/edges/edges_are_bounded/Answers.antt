use Rattle.law_journals.proofs.BoundLemmas.{edges_are_bounded}
use Rattle.law_journals.proofs.edges.edges_are_bounded.Goals as goal

pub returns : goal.returns
returns c = edges_are_bounded
