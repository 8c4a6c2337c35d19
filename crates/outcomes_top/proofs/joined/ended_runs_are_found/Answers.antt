use Rattle.outcomes_top.proofs.JoinedLemmas.{ended_runs_are_found}
use Rattle.outcomes_top.proofs.joined.ended_runs_are_found.Goals as goal

pub returns : goal.returns
returns c = ended_runs_are_found
