use Rattle.law_program_files.proofs.ProgramLaws.{programs_are_own}
use Rattle.law_program_files.proofs.programs.programs_are_own.Goals as goal

pub returns : goal.returns
returns c = programs_are_own
