use Rattle.asp_model.specs.Shapes.{marked_of}
use Rattle.law_outcomes.proofs.ProgramLaws.{programs_are_readable}
use Rattle.explain.proofs.findings.of_program.Goals as goal

pub check-requires : goal.check-requires
check-requires c = record { readable = programs_are_readable c.args.bytes.now (marked_of c.args.program.root) c.requires.program }

pub of_checked-requires : goal.of_checked-requires
of_checked-requires c = record {
  faultless = record {
    program = marked_of c.args.program.root;
    is_read = c.requires.program;
    only = c.requires.only;
    checked = c.in-Ok.ensures.checked.1;
  };
}

pub of_check-requires : goal.of_check-requires
of_check-requires c = record {
  fault = record {
    program = marked_of c.args.program.root;
    is_read = c.requires.program;
    only = c.requires.only;
    first = c.in-Err-Fault.ensures.fault c.in-Err-Fault.fault c.in-Err-Fault.field-0-is;
  };
}
