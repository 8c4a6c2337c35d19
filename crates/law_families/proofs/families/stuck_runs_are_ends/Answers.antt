use Rattle.law_families.proofs.FamilyLaws.{stuck_runs_are_ends}
use Rattle.law_families.proofs.families.stuck_runs_are_ends.Goals as goal

pub returns : goal.returns
returns c = stuck_runs_are_ends
