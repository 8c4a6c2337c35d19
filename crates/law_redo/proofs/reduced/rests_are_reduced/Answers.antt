use Rattle.law_redo.proofs.ReducedLemmas.{rests_are_reduced}
use Rattle.law_redo.proofs.reduced.rests_are_reduced.Goals as goal

pub returns : goal.returns
returns c = rests_are_reduced
