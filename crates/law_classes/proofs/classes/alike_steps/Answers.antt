use Rattle.law_classes.proofs.AlikeLemmas.{alike_steps}
use Rattle.law_classes.proofs.classes.alike_steps.Goals as goal

pub returns : goal.returns
returns c = alike_steps
