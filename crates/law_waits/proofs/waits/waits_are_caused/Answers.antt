use Rattle.law_waits.proofs.CauseLemmas.{waits_are_caused}
use Rattle.law_waits.proofs.waits.waits_are_caused.Goals as goal

pub returns : goal.returns
returns c = waits_are_caused
