use Rattle.law_paths.proofs.ReplayLemmas.{reached_are_replayed}
use Rattle.law_paths.proofs.correct.reached_are_replayed.Goals as goal

pub returns : goal.returns
returns c = reached_are_replayed
