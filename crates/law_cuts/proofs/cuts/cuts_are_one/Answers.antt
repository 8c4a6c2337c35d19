use Rattle.law_cuts.proofs.CutLaws.{cuts_are_one}
use Rattle.law_cuts.proofs.cuts.cuts_are_one.Goals as goal

pub returns : goal.returns
returns c = cuts_are_one
