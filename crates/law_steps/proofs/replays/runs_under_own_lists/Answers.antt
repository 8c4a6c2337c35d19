use Rattle.law_steps.proofs.ReplayLemmas.{runs_under_own_lists}
use Rattle.law_steps.proofs.replays.runs_under_own_lists.Goals as goal

pub returns : goal.returns
returns c = runs_under_own_lists
