use Rattle.law_cuts.proofs.CutLaws.{wants_end}
use Rattle.law_cuts.proofs.cuts.wants_end.Goals as goal

pub returns : goal.returns
returns c = wants_end
