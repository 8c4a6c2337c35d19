use Rattle.law_classes.proofs.ClassLaws.{stuck_runs_are_alike}
use Rattle.law_classes.proofs.classes.stuck_runs_are_alike.Goals as goal

pub returns : goal.returns
returns c = stuck_runs_are_alike
