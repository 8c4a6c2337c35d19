use Rattle.law_peeks.proofs.LongerLemmas.{moves_run_on}
use Rattle.law_peeks.proofs.moves.moves_run_on.Goals as goal

pub returns : goal.returns
returns c = moves_run_on
