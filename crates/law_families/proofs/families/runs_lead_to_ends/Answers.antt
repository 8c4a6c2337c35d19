use Rattle.law_families.proofs.FamilyLaws.{runs_lead_to_ends}
use Rattle.law_families.proofs.families.runs_lead_to_ends.Goals as goal

pub returns : goal.returns
returns c = runs_lead_to_ends
