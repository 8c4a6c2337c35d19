use Rattle.law_journals.proofs.EntryLemmas.{lends_are_entered}
use Rattle.law_journals.proofs.entered.lends_are_entered.Goals as goal

pub returns : goal.returns
returns c = lends_are_entered
