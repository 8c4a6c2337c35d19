use Rattle.std.proofs.Common.{sym, subst}
use Rattle.step_machine.specs.Standing.{View, Standing, view_of}
use Rattle.step_machine.specs.Views.{outer}
use Rattle.step_machine.proofs.CallLemmas.{closes}
use Rattle.step_machine.proofs.machine.Machine.fill.Goals as goal

pub returns-clause-filled : goal.returns-clause-filled
returns-clause-filled c = λ k t vs h at.
    let v : View = view_of c.args.self.now in
    subst (λ (w : View). Standing k w t vs) (sym c.in_ok-close.ensures.view)
    (closes k v (outer v.frames) c.in-Some.frame c.args.place t vs c.in-Some.ensures.some.0 h at c.in-Some.ensures.some.1)
