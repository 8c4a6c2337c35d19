use Rattle.law_classes.proofs.AlikeLemmas.{alike_statuses}
use Rattle.law_classes.proofs.classes.alike_statuses.Goals as goal

pub returns : goal.returns
returns c = alike_statuses
