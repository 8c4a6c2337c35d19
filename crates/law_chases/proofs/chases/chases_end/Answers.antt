use Rattle.law_chases.proofs.EndLemmas.{chases_end}
use Rattle.law_chases.proofs.chases.chases_end.Goals as goal

pub returns : goal.returns
returns c = chases_end
