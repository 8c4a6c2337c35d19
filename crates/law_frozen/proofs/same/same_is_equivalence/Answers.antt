use Rattle.law_frozen.proofs.SameLemmas.{same_is_equivalence}
use Rattle.law_frozen.proofs.same.same_is_equivalence.Goals as goal

pub returns : goal.returns
returns c = same_is_equivalence
