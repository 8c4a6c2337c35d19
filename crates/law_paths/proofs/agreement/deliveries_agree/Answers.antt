use Rattle.law_paths.proofs.FollowLemmas.{deliveries_agree}
use Rattle.law_paths.proofs.agreement.deliveries_agree.Goals as goal

pub returns : goal.returns
returns c = deliveries_agree
