use Rattle.law_journals.proofs.EntryLemmas.{needs_are_entered}
use Rattle.law_journals.proofs.entered.needs_are_entered.Goals as goal

pub returns : goal.returns
returns c = needs_are_entered
