use Rattle.law_journals.proofs.JournalLemmas.{journals_reach}
use Rattle.law_journals.proofs.entries.journals_reach.Goals as goal

pub returns : goal.returns
returns c = journals_reach
