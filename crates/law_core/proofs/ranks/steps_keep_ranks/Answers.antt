use Rattle.law_core.proofs.RankLemmas.{steps_keep_ranks}
use Rattle.law_core.proofs.ranks.steps_keep_ranks.Goals as goal

pub returns : goal.returns
returns c = steps_keep_ranks
