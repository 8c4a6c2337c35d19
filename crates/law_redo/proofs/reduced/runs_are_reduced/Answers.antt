use Rattle.law_redo.proofs.ReducedLemmas.{runs_are_reduced}
use Rattle.law_redo.proofs.reduced.runs_are_reduced.Goals as goal

pub returns : goal.returns
returns c = runs_are_reduced
