use Rattle.law_steps.proofs.ReachedLemmas.{runs_go_on}
use Rattle.law_steps.proofs.reached.runs_go_on.Goals as goal

pub returns : goal.returns
returns c = runs_go_on
