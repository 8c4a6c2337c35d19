use Rattle.law_classes.proofs.ClassLaws.{runs_lead_on}
use Rattle.law_classes.proofs.classes.runs_lead_on.Goals as goal

pub returns : goal.returns
returns c = runs_lead_on
