use Rattle.law_journals.proofs.NumberLemmas.{start_is_first}
use Rattle.law_journals.proofs.numbered.start_is_first.Goals as goal

pub returns : goal.returns
returns c = start_is_first
