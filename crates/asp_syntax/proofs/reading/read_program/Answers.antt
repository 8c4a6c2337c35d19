use Rattle.asp_syntax.proofs.Feeding.{ok_program, ok_only, err_first, err_only}
use Rattle.asp_syntax.proofs.reading.read_program.Goals as goal

pub returns-in-Ok-clause-program : goal.returns-in-Ok-clause-program
returns-in-Ok-clause-program c = ok_program c.read.result c.args.bytes.now c.in-Ok.root c.in-Ok.is c.read.ensures

pub returns-in-Ok-clause-only : goal.returns-in-Ok-clause-only
returns-in-Ok-clause-only c m p = ok_only c.read.result c.args.bytes.now c.in-Ok.root m c.in-Ok.is c.read.ensures p

pub returns-in-Err-clause-fault : goal.returns-in-Err-clause-fault
returns-in-Err-clause-fault c = err_first c.read.result c.args.bytes.now c.in-Err.error c.in-Err.is c.read.ensures

pub returns-in-Err-clause-only : goal.returns-in-Err-clause-only
returns-in-Err-clause-only c m p = err_only c.read.result c.args.bytes.now c.in-Err.error m c.in-Err.is c.read.ensures p
