use Rattle.law_frozen.proofs.FrozenLemmas.{frozen_is_same}
use Rattle.law_frozen.proofs.frozen.frozen_is_same.Goals as goal

pub returns : goal.returns
returns c = frozen_is_same
