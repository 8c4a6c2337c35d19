use Rattle.law_steps.proofs.ReplayLemmas.{plain_runs_replay}
use Rattle.law_steps.proofs.replays.plain_runs_replay.Goals as goal

pub returns : goal.returns
returns c = plain_runs_replay
