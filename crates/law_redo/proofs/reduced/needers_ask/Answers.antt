use Rattle.law_redo.proofs.AskingLemmas.{needers_ask}
use Rattle.law_redo.proofs.reduced.needers_ask.Goals as goal

pub returns : goal.returns
returns c = needers_ask
