use Rattle.law_families.proofs.FamilyLaws.{fitting_are_within}
use Rattle.law_families.proofs.families.fitting_are_within.Goals as goal

pub returns : goal.returns
returns c = fitting_are_within
