use Rattle.law_journals.proofs.GrowingLemmas.{holders_go_on}
use Rattle.law_journals.proofs.growing.holders_go_on.Goals as goal

pub returns : goal.returns
returns c = holders_go_on
