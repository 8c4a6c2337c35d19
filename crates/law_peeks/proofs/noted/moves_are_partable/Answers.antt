use Rattle.law_peeks.proofs.NotedLemmas.{moves_are_partable}
use Rattle.law_peeks.proofs.noted.moves_are_partable.Goals as goal

pub returns : goal.returns
returns c = moves_are_partable
