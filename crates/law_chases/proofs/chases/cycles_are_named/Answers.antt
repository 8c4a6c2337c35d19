use Rattle.law_chases.proofs.NamedLemmas.{cycles_are_named}
use Rattle.law_chases.proofs.chases.cycles_are_named.Goals as goal

pub returns : goal.returns
returns c = cycles_are_named
