use Rattle.outcomes_top.proofs.JoinedLemmas.{spent_runs_are_short}
use Rattle.outcomes_top.proofs.joined.spent_runs_are_short.Goals as goal

pub returns : goal.returns
returns c = spent_runs_are_short
