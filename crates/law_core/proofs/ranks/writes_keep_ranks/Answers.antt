use Rattle.law_core.proofs.RankLemmas.{writes_keep_ranks}
use Rattle.law_core.proofs.ranks.writes_keep_ranks.Goals as goal

pub returns : goal.returns
returns c = writes_keep_ranks
