use Rattle.law_paths.proofs.FollowLemmas.{statuses_agree}
use Rattle.law_paths.proofs.agreement.statuses_agree.Goals as goal

pub returns : goal.returns
returns c = statuses_agree
