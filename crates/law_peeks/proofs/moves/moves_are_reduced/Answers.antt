use Rattle.law_peeks.proofs.MoveLemmas.{moves_are_reduced}
use Rattle.law_peeks.proofs.moves.moves_are_reduced.Goals as goal

pub returns : goal.returns
returns c = moves_are_reduced
