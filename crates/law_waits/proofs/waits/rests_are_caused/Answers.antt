use Rattle.law_waits.proofs.CauseLemmas.{rests_are_caused}
use Rattle.law_waits.proofs.waits.rests_are_caused.Goals as goal

pub returns : goal.returns
returns c = rests_are_caused
