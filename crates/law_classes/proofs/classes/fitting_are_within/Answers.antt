use Rattle.law_classes.proofs.ClassLaws.{fitting_are_within}
use Rattle.law_classes.proofs.classes.fitting_are_within.Goals as goal

pub returns : goal.returns
returns c = fitting_are_within
