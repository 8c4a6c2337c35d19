use Rattle.law_steps.proofs.JoinLaws.{stuck_is_joined}
use Rattle.law_steps.proofs.joins.stuck_is_joined.Goals as goal

pub returns : goal.returns
returns c = stuck_is_joined
