use Rattle.law_cuts.proofs.CutLaws.{goal_is_needed}
use Rattle.law_cuts.proofs.cuts.goal_is_needed.Goals as goal

pub returns : goal.returns
returns c = goal_is_needed
