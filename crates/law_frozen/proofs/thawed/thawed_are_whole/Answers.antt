use Rattle.law_frozen.proofs.ThawLemmas.{thawed_are_whole}
use Rattle.law_frozen.proofs.thawed.thawed_are_whole.Goals as goal

pub returns : goal.returns
returns c = thawed_are_whole
