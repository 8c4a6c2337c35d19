use Rattle.law_steps.proofs.JoinLaws.{stuck_runs_agree}
use Rattle.law_steps.proofs.joins.stuck_runs_agree.Goals as goal

pub returns : goal.returns
returns c = stuck_runs_agree
