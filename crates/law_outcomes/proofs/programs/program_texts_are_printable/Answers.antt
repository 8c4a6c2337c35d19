use Rattle.law_outcomes.proofs.ProgramLaws.{program_texts_are_printable}
use Rattle.law_outcomes.proofs.programs.program_texts_are_printable.Goals as goal

pub returns : goal.returns
returns c = program_texts_are_printable
