use Rattle.law_paths.proofs.WholeLemmas.{moves_keep_whole}
use Rattle.law_paths.proofs.whole.moves_keep_whole.Goals as goal

pub returns : goal.returns
returns c = moves_keep_whole
