use Rattle.law_paths.proofs.WholeLemmas.{entries_keep_whole}
use Rattle.law_paths.proofs.whole.entries_keep_whole.Goals as goal

pub returns : goal.returns
returns c = entries_keep_whole
