use Rattle.law_steps.proofs.LinkedLemmas.{cells_are_linked}
use Rattle.law_steps.proofs.linked.cells_are_linked.Goals as goal

pub returns : goal.returns
returns c = cells_are_linked
