use Rattle.law_core.proofs.RankLemmas.{ranks_tell}
use Rattle.law_core.proofs.ranks.ranks_tell.Goals as goal

pub returns : goal.returns
returns c = ranks_tell
