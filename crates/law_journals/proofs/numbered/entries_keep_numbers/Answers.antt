use Rattle.law_journals.proofs.NumberLemmas.{entries_keep_numbers}
use Rattle.law_journals.proofs.numbered.entries_keep_numbers.Goals as goal

pub returns : goal.returns
returns c = entries_keep_numbers
