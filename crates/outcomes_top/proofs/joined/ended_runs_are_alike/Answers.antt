use Rattle.outcomes_top.proofs.JoinedLemmas.{ended_runs_are_alike}
use Rattle.outcomes_top.proofs.joined.ended_runs_are_alike.Goals as goal

pub returns : goal.returns
returns c = ended_runs_are_alike
