use Rattle.law_redo.proofs.ReducedLemmas.{steps_are_reduced}
use Rattle.law_redo.proofs.reduced.steps_are_reduced.Goals as goal

pub returns : goal.returns
returns c = steps_are_reduced
