use Rattle.law_paths.proofs.ReplayLemmas.{journals_are_replayed}
use Rattle.law_paths.proofs.correct.journals_are_replayed.Goals as goal

pub returns : goal.returns
returns c = journals_are_replayed
