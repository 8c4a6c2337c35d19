use Rattle.law_peeks.proofs.LongerLemmas.{moves_read_on}
use Rattle.law_peeks.proofs.moves.moves_read_on.Goals as goal

pub returns : goal.returns
returns c = moves_read_on
