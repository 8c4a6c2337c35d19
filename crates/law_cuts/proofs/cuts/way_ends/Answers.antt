use Rattle.law_cuts.proofs.CutLaws.{way_ends}
use Rattle.law_cuts.proofs.cuts.way_ends.Goals as goal

pub returns : goal.returns
returns c = way_ends
