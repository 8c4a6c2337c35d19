use Rattle.law_redo.proofs.ReducedLemmas.{lasts_are_reduced}
use Rattle.law_redo.proofs.reduced.lasts_are_reduced.Goals as goal

pub returns : goal.returns
returns c = lasts_are_reduced
