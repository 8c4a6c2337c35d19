use Rattle.law_outcomes.proofs.ProgramLaws.{programs_have_no_places}
use Rattle.law_outcomes.proofs.programs.programs_have_no_places.Goals as goal

pub returns : goal.returns
returns c = programs_have_no_places
