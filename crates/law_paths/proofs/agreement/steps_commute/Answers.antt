use Rattle.law_paths.proofs.FollowLemmas.{steps_commute}
use Rattle.law_paths.proofs.agreement.steps_commute.Goals as goal

pub returns : goal.returns
returns c = steps_commute
