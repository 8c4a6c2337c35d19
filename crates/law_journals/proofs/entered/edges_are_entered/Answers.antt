use Rattle.law_journals.proofs.EntryLemmas.{edges_are_entered}
use Rattle.law_journals.proofs.entered.edges_are_entered.Goals as goal

pub returns : goal.returns
returns c = edges_are_entered
