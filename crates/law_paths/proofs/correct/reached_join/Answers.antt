use Rattle.law_paths.proofs.ReplayLemmas.{reached_join}
use Rattle.law_paths.proofs.correct.reached_join.Goals as goal

pub returns : goal.returns
returns c = reached_join
