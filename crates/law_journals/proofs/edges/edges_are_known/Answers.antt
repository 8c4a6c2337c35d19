use Rattle.law_journals.proofs.KnownLemmas.{edges_are_known}
use Rattle.law_journals.proofs.edges.edges_are_known.Goals as goal

pub returns : goal.returns
returns c = edges_are_known
