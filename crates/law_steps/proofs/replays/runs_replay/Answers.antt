use Rattle.law_steps.proofs.ReplayLemmas.{runs_replay}
use Rattle.law_steps.proofs.replays.runs_replay.Goals as goal

pub returns : goal.returns
returns c = runs_replay
