use Rattle.law_frozen.proofs.FrozenLemmas.{same_freezes_same}
use Rattle.law_frozen.proofs.frozen.same_freezes_same.Goals as goal

pub returns : goal.returns
returns c = same_freezes_same
