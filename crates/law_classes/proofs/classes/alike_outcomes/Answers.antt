use Rattle.law_classes.proofs.OutcomeLemmas.{alike_outcomes}
use Rattle.law_classes.proofs.classes.alike_outcomes.Goals as goal

pub returns : goal.returns
returns c = alike_outcomes
