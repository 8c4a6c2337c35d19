use Rattle.law_classes.proofs.ClassLaws.{runs_end}
use Rattle.law_classes.proofs.classes.runs_end.Goals as goal

pub returns : goal.returns
returns c = runs_end
