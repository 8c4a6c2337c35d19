use Rattle.law_steps.proofs.ReplayLemmas.{plain_runs_are_runs}
use Rattle.law_steps.proofs.replays.plain_runs_are_runs.Goals as goal

pub returns : goal.returns
returns c = plain_runs_are_runs
