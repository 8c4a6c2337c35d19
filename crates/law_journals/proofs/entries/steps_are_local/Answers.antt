use Rattle.law_journals.proofs.LocalLemmas.{steps_are_local}
use Rattle.law_journals.proofs.entries.steps_are_local.Goals as goal

pub returns : goal.returns
returns c = steps_are_local
