use Rattle.law_paths.proofs.FollowLemmas.{steps_agree}
use Rattle.law_paths.proofs.agreement.steps_agree.Goals as goal

pub returns : goal.returns
returns c = steps_agree
