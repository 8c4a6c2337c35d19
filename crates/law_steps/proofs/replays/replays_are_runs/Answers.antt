use Rattle.law_steps.proofs.ReplayLemmas.{replays_are_runs}
use Rattle.law_steps.proofs.replays.replays_are_runs.Goals as goal

pub returns : goal.returns
returns c = replays_are_runs
