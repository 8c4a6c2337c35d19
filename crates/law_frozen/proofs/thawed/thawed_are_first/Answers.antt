use Rattle.law_frozen.proofs.ThawLemmas.{thawed_are_first}
use Rattle.law_frozen.proofs.thawed.thawed_are_first.Goals as goal

pub returns : goal.returns
returns c = thawed_are_first
