use Rattle.law_cuts.proofs.CutLaws.{start_is_on_way}
use Rattle.law_cuts.proofs.cuts.start_is_on_way.Goals as goal

pub returns : goal.returns
returns c = start_is_on_way
