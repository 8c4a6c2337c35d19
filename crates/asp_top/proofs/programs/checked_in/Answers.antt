use Rattle.asp_model.specs.Shapes.{marked_of}
use Rattle.law_outcomes.proofs.ProgramLaws.{programs_are_readable}
use Rattle.asp_top.specs.Stops.{StopsAt, syntax_stop, check_stop}
use Rattle.asp_top.proofs.StopLemmas.{stops_at, check_stops_at, program_is, stops_if}
use Rattle.asp_top.proofs.programs.checked_in.Goals as goal

pub check-requires : goal.check-requires
check-requires c = record { readable = programs_are_readable c.args.bytes.now (marked_of c.in_ok-program.program.root) c.in_ok-program.ensures.program }

pub returns-in_err-program-clause-stop : goal.returns-in_err-program-clause-stop
returns-in_err-program-clause-stop c =
    let e = c.in_err-program.field-0.0 in
    stops_if (StopsAt c.args.bytes.now) c.from_residual.result (syntax_stop e) c.from_residual.ensures.1 (stops_at c.args.bytes.now e c.in_err-program.ensures.fault c.in_err-program.ensures.only)

pub returns-in_err-check-clause-stop : goal.returns-in_err-check-clause-stop
returns-in_err-check-clause-stop c =
    let e = c.in_err-check.field-0.0 in
    stops_if (StopsAt c.args.bytes.now) c.from_residual-in_err-check.result (check_stop e) c.from_residual-in_err-check.ensures.1
    (check_stops_at c.args.bytes.now (marked_of c.in_ok-program.program.root) e c.in_ok-program.ensures.program c.in_ok-program.ensures.only c.in_err-check.ensures.fault c.in_err-check.ensures.only)

pub returns-clause-checked : goal.returns-clause-checked
returns-clause-checked c =
    program_is c.args.bytes.now c.in_ok-program.program c.in_ok-check.field-0 c.in_ok-program.ensures.program c.in_ok-program.ensures.only c.in_ok-check.ensures.checked
