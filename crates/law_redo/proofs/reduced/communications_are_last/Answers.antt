use Rattle.law_redo.proofs.ReducedLemmas.{communications_are_last}
use Rattle.law_redo.proofs.reduced.communications_are_last.Goals as goal

pub returns : goal.returns
returns c = communications_are_last
