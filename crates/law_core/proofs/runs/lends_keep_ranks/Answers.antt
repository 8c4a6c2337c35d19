use Rattle.law_core.proofs.RunLemmas.{lends_keep_ranks}
use Rattle.law_core.proofs.runs.lends_keep_ranks.Goals as goal

pub returns : goal.returns
returns c = lends_keep_ranks
