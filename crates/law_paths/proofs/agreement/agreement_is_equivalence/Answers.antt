use Rattle.law_paths.proofs.FollowLemmas.{agreement_is_equivalence}
use Rattle.law_paths.proofs.agreement.agreement_is_equivalence.Goals as goal

pub returns : goal.returns
returns c = agreement_is_equivalence
