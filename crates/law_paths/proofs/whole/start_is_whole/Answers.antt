use Rattle.law_paths.proofs.WholeLemmas.{start_is_whole}
use Rattle.law_paths.proofs.whole.start_is_whole.Goals as goal

pub returns : goal.returns
returns c = start_is_whole
