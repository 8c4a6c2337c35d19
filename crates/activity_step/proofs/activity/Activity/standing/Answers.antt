use Rattle.std.proofs.Common.{List, reverse, sym, subst}
use Rattle.code_table.specs.declared.code.Node.{Node}
use Rattle.step_machine.specs.Standing.{Standing, View, view_of}
use Rattle.activity_step.specs.Standings.{code_of}
use Rattle.activity_step.proofs.activity.Activity.standing.Goals as goal

pub returns-in_ok-asked_redex-in-Asked-clause-standing : goal.returns-in_ok-asked_redex-in-Asked-clause-standing
returns-in_ok-asked_redex-in-Asked-clause-standing c = λ a h. c.in_ok-asked_redex-in-Asked.ensures.redex (code_of c.args.self.now) a h.state.machine c.in-Asked.is

pub returns-in_ok-redex-in-Calls-clause-standing : goal.returns-in_ok-redex-in-Calls-clause-standing
returns-in_ok-redex-in-Calls-clause-standing c = λ a h.
    let v : View = view_of c.args.self.now.state.machine in
    c.in_ok-redex-in-Calls.ensures.redex a v (subst (λ (k : List Node). Standing k v a.term (reverse a.services)) (sym c.deref.ensures) h.state.machine) c.in-Calls.is
