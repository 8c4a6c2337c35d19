use Rattle.law_journals.proofs.EdgeLemmas.{edges_are_distinct}
use Rattle.law_journals.proofs.edges.edges_are_distinct.Goals as goal

pub returns : goal.returns
returns c = edges_are_distinct
