use Rattle.law_journals.proofs.JournalLemmas.{entries_keep_closed}
use Rattle.law_journals.proofs.entries.entries_keep_closed.Goals as goal

pub returns : goal.returns
returns c = entries_keep_closed
