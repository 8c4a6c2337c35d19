use Rattle.std.proofs.Common.{IfNone, List, Option, subst, ℕ}
use Rattle.asp_check.specs.declared.checked.Checked.{Checked}
use Rattle.asp_explain.specs.Given.{HasFault, IsToldWith}
use Rattle.asp_explain.proofs.GivenLemmas.{faulty_status}
use Rattle.asp_explain.proofs.loading.load.Goals as goal

pub returns-clause-loaded : goal.returns-clause-loaded
returns-clause-loaded g c =
    let file = c.args.file.now in
    let bytes = c.in_ok-bytes.bytes.items in
    let answer = c.in_ok-told-in-None.field-0 in
    let fault = subst HasFault c.deref.ensures.value (subst (λ (o : Option Checked). IfNone o (HasFault c.deref.result.now)) c.in-None.is c.in_ok-program.ensures.fault) in
    let told = subst (λ (l : List ℕ). IsToldWith file l answer.text.items answer.status) c.deref-in-None.ensures.value c.in_ok-told-in-None.ensures in
    record {
      told = record { bytes = bytes; asked = c.in_ok-bytes.ensures.bytes; told = told };
      fault = fault;
      status_is = faulty_status file bytes answer.text.items answer.status fault told;
    }
