use Rattle.law_journals.proofs.GrowingLemmas.{entries_go_on}
use Rattle.law_journals.proofs.growing.entries_go_on.Goals as goal

pub returns : goal.returns
returns c = entries_go_on
