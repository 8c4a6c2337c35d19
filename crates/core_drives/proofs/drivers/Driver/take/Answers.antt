use Rattle.std.proofs.Common.{arith, map, refl, sym, subst}
use Rattle.std.proofs.lemmas.List.{drop_all}
use Rattle.asp_core.specs.Cores.{history_of}
use Rattle.core_drives.specs.Steps.{Lead, ran_after, step_shape}
use Rattle.core_drives.proofs.EndLemmas.{lead_more}
use Rattle.core_drives.proofs.drivers.Driver.take.Goals as goal

pub loop-step-init : goal.loop-step-init
loop-step-init g c = (c.requires.driving, λ ran have. (ran, have, λ h leads. leads), λ plan policies is. is)

pub loop-step-preserved : goal.loop-step-preserved
loop-step-preserved g c =
    let before = c.loop-step.invariant in
    let x = c.loop-step.self in
    let y = c.step.new.self in
    let steps = c.args.steps.now in
    let i = c.loop-step.step-index in (
      c.in_ok-step.ensures.driving,
      λ ran have.
          let at = before.1 ran have in (
            ran_after (step_shape c.step-item.result) at.0,
            c.in_ok-step.ensures.ran at.0 at.1,
            λ h leads. at.2 h (lead_more steps i c.step-item.result at.0 (history_of x.core) (history_of y.core) h (omega arith) c.step-item.is (c.in_ok-step.ensures.stepped at.0 at.1) leads),
          ),
      λ plan policies is. c.in_ok-step.ensures.by_plan plan policies (before.2 plan policies is),
    )

pub returns-clause-leads : goal.returns-clause-leads
returns-clause-leads g c = λ ran have.
    let x = c.loop-step.self in
    let at = c.loop-step.invariant.1 ran have in
    at.2 (history_of x.core) (subst (λ q. Lead (map step_shape q) at.0 (history_of x.core) (history_of x.core)) (sym (drop_all c.loop-step.step-index c.args.steps.now (omega arith))) refl)

pub returns-clause-by_plan : goal.returns-clause-by_plan
returns-clause-by_plan g c = c.loop-step.invariant.2
