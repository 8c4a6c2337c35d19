use Rattle.law_chases.proofs.FillLemmas.{filled_is_of_root}
use Rattle.law_chases.proofs.chases.filled_is_of_root.Goals as goal

pub returns : goal.returns
returns c = filled_is_of_root
