use Rattle.law_waits.proofs.CauseLemmas.{waits_are_so}
use Rattle.law_waits.proofs.waits.waits_are_so.Goals as goal

pub returns : goal.returns
returns c = waits_are_so
