use Rattle.law_journals.proofs.JournalLemmas.{entries_keep_sound}
use Rattle.law_journals.proofs.entries.entries_keep_sound.Goals as goal

pub returns : goal.returns
returns c = entries_keep_sound
