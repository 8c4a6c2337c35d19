use Rattle.law_steps.proofs.JoinLaws.{listed_runs_stay_within}
use Rattle.law_steps.proofs.replays.listed_runs_stay_within.Goals as goal

pub returns : goal.returns
returns c = listed_runs_stay_within
