use Rattle.std.proofs.Common.{List, Some, subst, sym}
use Rattle.explain.specs.declared.findings.Fault.TheVariants.{Check}
use Rattle.explain.specs.declared.remark.Remark.{Remark}
use Rattle.explain.specs.Found.{IsShownFirst}
use Rattle.explain.proofs.findings.of_check.Goals as goal

pub returns-clause-first : goal.returns-clause-first
returns-clause-first c =
    let fault = Some (Check c.args.fault) in
    let shown = subst (λ (l : List Remark). IsShownFirst fault l) (sym c.in_ok-remarks.ensures) (c.error_at.ensures.place, c.error_at.ensures.severity) in
    c.in_ok-with_other.ensures fault shown
