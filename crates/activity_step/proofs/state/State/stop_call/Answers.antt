use Rattle.std.proofs.Common.{ℕ, List, false, subst}
use Rattle.asp_model.specs.Term.{Call}
use Rattle.step_rows.specs.declared.calls.Callee.TheVariants as callee
use Rattle.step_rows.specs.Decisions.{value_redex}
use Rattle.step_machine.specs.Stacks.{last}
use Rattle.step_machine.specs.Standing.{View, view_of}
use Rattle.step_machine.proofs.CallLemmas.{call_redex}
use Rattle.activity_step.specs.declared.advance.Advance.TheVariants as advance
use Rattle.activity_step.specs.Called.{IsCalled}
use Rattle.activity_step.proofs.AdvanceLemmas.{stopped}
use Rattle.activity_step.proofs.CallLemmas.{sends}
use Rattle.activity_step.proofs.state.State.stop_call.Goals as goal

pub returns-in-Activity : goal.returns-in-Activity
returns-in-Activity c = record {
  stop = λ t vs s ls h at.
      let k = c.args.code.now in
      let a = c.args.self.now in
      let v : View = view_of a.machine in
      let q = a.store.cells in
      let ops : List ℕ = last c.args.count a.machine.operands.items in
      let called : IsCalled k q c.args.label.now.label.text ops c.in-Ok.callee = subst (λ (l : List ℕ). IsCalled k q c.args.label.now.label.text l c.in-Ok.callee) c.last_operands-operands.ensures.operands c.in-Ok.ensures.called in
      let w : IsCalled k q c.args.label.now.label.text ops (callee.Activity c.in-Activity.field-0) = subst (IsCalled k q c.args.label.now.label.text ops) c.in-Activity.is called in
      stopped k a t vs s ls false c.args.count (value_redex (Call c.args.label.now.label.text) ops) advance.Sends h (call_redex k v c.args.number c.args.count c.args.label.now.label.text t vs at) (sends k q c.args.label.now.label.text ops c.in-Activity.field-0 w);
}
