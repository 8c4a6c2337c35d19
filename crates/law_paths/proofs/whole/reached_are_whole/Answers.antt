use Rattle.law_paths.proofs.WholeLemmas.{reached_are_whole}
use Rattle.law_paths.proofs.whole.reached_are_whole.Goals as goal

pub returns : goal.returns
returns c = reached_are_whole
