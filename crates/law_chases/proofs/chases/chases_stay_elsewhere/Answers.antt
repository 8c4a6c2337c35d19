use Rattle.law_chases.proofs.FillLemmas.{chases_stay_elsewhere}
use Rattle.law_chases.proofs.chases.chases_stay_elsewhere.Goals as goal

pub returns : goal.returns
returns c = chases_stay_elsewhere
