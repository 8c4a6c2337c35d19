use Rattle.law_journals.proofs.RunLemmas.{effects_are_fresh}
use Rattle.law_journals.proofs.runs.effects_are_fresh.Goals as goal

pub returns : goal.returns
returns c = effects_are_fresh
