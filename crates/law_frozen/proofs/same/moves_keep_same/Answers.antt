use Rattle.law_frozen.proofs.SameLemmas.{moves_keep_same}
use Rattle.law_frozen.proofs.same.moves_keep_same.Goals as goal

pub returns : goal.returns
returns c = moves_keep_same
