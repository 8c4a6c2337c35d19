use Rattle.asp_model.specs.Shapes.{marked_of}
use Rattle.law_outcomes.proofs.ProgramLaws.{programs_are_readable}
use Rattle.run_tests.proofs.programs.checked.Goals as goal

pub check-requires : goal.check-requires
check-requires c = record { readable = programs_are_readable c.as_bytes.result.now (marked_of c.in_ok-program.program.root) c.in_ok-program.ensures.program }
