use Rattle.law_cuts.proofs.CutLaws.{wanted_are_needed}
use Rattle.law_cuts.proofs.cuts.wanted_are_needed.Goals as goal

pub returns : goal.returns
returns c = wanted_are_needed
