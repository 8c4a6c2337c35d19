use Rattle.std.proofs.Common.{◌∙◌}
use Rattle.activity_step.specs.declared.state.State.{State}
use Rattle.activity_step.proofs.AdvanceLemmas.{given, one_taken}
use Rattle.activity_step.proofs.state.State.nested_decided.Goals as goal

pub returns-clause-taken : goal.returns-clause-taken
returns-clause-taken c = λ k r t vs s ls h at is.
    let y : State = record { machine = c.give.new.self; store = c.perform.new.store; lines = c.perform.new.lines } in
    let done = c.in_ok-place.ensures.performed k in
    one_taken k y t vs s ls
    (given k c.args.self.now y t vs s ls c.args.number c.args.from c.args.done c.in_ok-place.place r done.added h at (is ∙ done.is) c.in_ok-give.ensures.view done.lines_are)
