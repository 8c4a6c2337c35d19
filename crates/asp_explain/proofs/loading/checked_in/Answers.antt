use Rattle.std.proofs.Common.{◌≡◌, ◌∙◌, Err, subst, sym}
use Rattle.asp_model.specs.Shapes.{marked_of}
use Rattle.asp_check.specs.Faults.{IsChecked}
use Rattle.asp_check.specs.declared.fault.CheckError.TheVariants as errors
use Rattle.asp_syntax.specs.declared.error.SyntaxError.{SyntaxError}
use Rattle.asp_syntax.specs.Correct.{IsOkWith}
use Rattle.law_outcomes.proofs.ProgramLaws.{programs_are_readable}
use Rattle.asp_explain.proofs.GivenLemmas.{program_is}
use Rattle.asp_explain.proofs.loading.checked_in.Goals as goal

pub check-requires : goal.check-requires
check-requires c = record { readable = programs_are_readable c.args.bytes.now (marked_of c.in-Ok.program.root) c.in-Ok.ensures.program }

pub returns-in-Ok-check-clause-checked : goal.returns-in-Ok-check-clause-checked
returns-in-Ok-check-clause-checked c = program_is c.args.bytes.now c.in-Ok.program c.in-Ok-check.checked c.in-Ok.ensures.program c.in-Ok.ensures.only c.in-Ok-check.ensures.checked

pub returns-in-Err-Fault-check-clause-fault : goal.returns-in-Err-Fault-check-clause-fault
returns-in-Err-Fault-check-clause-fault c = λ m r k.
    let bad : errors.Fault c.in-Err-Fault-check.field-0-0 ≡ errors.Memory = sym c.in-Err-Fault-check.field-0-is ∙ c.in-Err-Fault-check.ensures.only (subst IsChecked (sym (c.in-Ok.ensures.only m r)) k) in
    absurd cc

pub returns-in-Err-Fault-clause-fault : goal.returns-in-Err-Fault-clause-fault
returns-in-Err-Fault-clause-fault c = λ m r k. subst (λ (e : SyntaxError). IsOkWith (Err e) m) c.in-Err-Fault.field-0-is (c.in-Err-Fault.ensures.only m r)
