use Rattle.law_outcomes.proofs.ProgramLaws.{programs_are_readable}
use Rattle.law_outcomes.proofs.programs.programs_are_readable.Goals as goal

pub returns : goal.returns
returns c = programs_are_readable
