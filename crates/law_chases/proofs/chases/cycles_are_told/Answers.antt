use Rattle.law_chases.proofs.NamedLemmas.{cycles_are_told}
use Rattle.law_chases.proofs.chases.cycles_are_told.Goals as goal

pub returns : goal.returns
returns c = cycles_are_told
