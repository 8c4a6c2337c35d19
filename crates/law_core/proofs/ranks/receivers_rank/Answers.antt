use Rattle.law_core.proofs.RankLemmas.{receivers_rank}
use Rattle.law_core.proofs.ranks.receivers_rank.Goals as goal

pub returns : goal.returns
returns c = receivers_rank
