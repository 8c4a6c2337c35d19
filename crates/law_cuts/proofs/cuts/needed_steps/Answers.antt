use Rattle.law_cuts.proofs.CutLaws.{needed_steps}
use Rattle.law_cuts.proofs.cuts.needed_steps.Goals as goal

pub returns : goal.returns
returns c = needed_steps
