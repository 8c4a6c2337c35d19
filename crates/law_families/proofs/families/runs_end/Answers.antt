use Rattle.law_families.proofs.FamilyLaws.{runs_end}
use Rattle.law_families.proofs.families.runs_end.Goals as goal

pub returns : goal.returns
returns c = runs_end
