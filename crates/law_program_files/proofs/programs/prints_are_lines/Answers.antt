use Rattle.law_program_files.proofs.ProgramLaws.{prints_are_lines}
use Rattle.law_program_files.proofs.programs.prints_are_lines.Goals as goal

pub returns : goal.returns
returns c = prints_are_lines
