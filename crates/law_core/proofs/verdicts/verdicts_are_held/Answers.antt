use Rattle.law_core.proofs.VerdictLemmas.{verdicts_are_held}
use Rattle.law_core.proofs.verdicts.verdicts_are_held.Goals as goal

pub returns : goal.returns
returns c = verdicts_are_held
