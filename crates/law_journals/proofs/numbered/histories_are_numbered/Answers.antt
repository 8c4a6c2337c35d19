use Rattle.law_journals.proofs.NumberLemmas.{histories_are_numbered}
use Rattle.law_journals.proofs.numbered.histories_are_numbered.Goals as goal

pub returns : goal.returns
returns c = histories_are_numbered
