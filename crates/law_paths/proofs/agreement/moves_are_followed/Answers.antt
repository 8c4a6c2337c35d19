use Rattle.law_paths.proofs.FollowLemmas.{moves_are_followed}
use Rattle.law_paths.proofs.agreement.moves_are_followed.Goals as goal

pub returns : goal.returns
returns c = moves_are_followed
