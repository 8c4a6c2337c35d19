use Rattle.std.proofs.Common.{◌≡◌, List, reverse, subst, ◌∙◌}
use Rattle.std.proofs.lemmas.Result.{on_ok_weaker}
use Rattle.asp_model.specs.Term.{Tree}
use Rattle.asp_model.specs.Configuration.{ServiceShape}
use Rattle.code_table.specs.declared.code.Node.{Node}
use Rattle.step_machine.specs.Standing.{Standing, View, view_of}
use Rattle.step_machine.specs.Views.{Settled}
use Rattle.std.specs.Prelude.{OnOk}
use Rattle.activity_step.specs.Standings.{code_of}
use Rattle.activity_step.proofs.activity.Activity.go_on.Goals as goal

pub returns-clause-stands : goal.returns-clause-stands
returns-clause-stands c = λ a h.
    let x = c.args.self.now in
    let k : List Node = code_of x in
    let vs : List ServiceShape = reverse a.services in
    let new : View = view_of c.settle.new.self in
    let same : c.nodes-nodes.result.now ≡ k = c.nodes-nodes.ensures.nodes ∙ c.deref.ensures in
    let settled : OnOk c.settle.result (Settled k a.term vs new) =
    subst (λ (q : List Node). (t : Tree) (us : List ServiceShape) → Standing q (view_of x.state.machine) t us → OnOk c.settle.result (Settled q t us new)) same c.settle.ensures.settled a.term vs h.state.machine in
    on_ok_weaker c.settle.result (λ s. record { state = record { machine = s.standing; store = h.state.store; lines = h.state.lines }; present = h.present; active = h.active; count = h.count }) settled
