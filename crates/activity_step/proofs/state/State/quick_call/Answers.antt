use Rattle.std.proofs.Common.{◌≡◌, ℕ, true, List, refl, subst}
use Rattle.code_table.specs.Places.{placed}
use Rattle.step_rows.specs.declared.calls.Callee.TheVariants as callee
use Rattle.step_machine.specs.Rows.{called_view}
use Rattle.step_machine.specs.Stacks.{last}
use Rattle.step_machine.specs.Standing.{View, view_of}
use Rattle.activity_step.specs.Called.{IsCalled}
use Rattle.activity_step.proofs.AdvanceLemmas.{contracted}
use Rattle.activity_step.proofs.CallLemmas.{method_contracts}
use Rattle.activity_step.proofs.state.State.quick_call.Goals as goal

pub returns : goal.returns
returns c = record {
  taken = λ t vs s ls h at.
      let k = c.args.code.now in
      let a = c.args.self.now in
      let v : View = view_of a.machine in
      let q = a.store.cells in
      let l = c.args.label.now.label.text in
      let ops : List ℕ = last c.args.count a.machine.operands.items in
      let called : IsCalled k q l ops c.in-Some.callee = subst (λ (ns : List ℕ). IsCalled k q l ns c.in-Some.callee) c.last_operands-operands.ensures.operands c.in-Some.ensures.called in
      let m = c.in-Method.method in
      let cs = c.in-Method.captured in
      let w : IsCalled k q l ops (callee.Method m cs) = subst (IsCalled k q l ops) c.in-Method.is called in
      contracted k a (record { machine = c.enter_body.new.self; store = a.store; lines = a.lines }) t vs s ls true (called_view c.args.count (placed cs) m.now.body v) h refl
      (method_contracts k v c.args.number c.args.count l t vs q m cs at w) c.in_ok-enter_body.ensures.view refl refl;
}
