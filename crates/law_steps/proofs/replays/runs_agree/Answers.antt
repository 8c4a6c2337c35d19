use Rattle.law_steps.proofs.ReplayLemmas.{runs_agree}
use Rattle.law_steps.proofs.replays.runs_agree.Goals as goal

pub returns : goal.returns
returns c = runs_agree
