use Rattle.std.proofs.Common.{rules, ◌≡◌, ℕ, true, false, List, refl, subst}
use Rattle.asp_model.specs.Term.{Call}
use Rattle.code_table.specs.Places.{placed}
use Rattle.step_rows.specs.declared.calls.Callee.TheVariants as callee
use Rattle.step_rows.specs.Decisions.{value_redex}
use Rattle.step_machine.specs.Rows.{called_view}
use Rattle.step_machine.specs.Stacks.{last}
use Rattle.step_machine.specs.Standing.{View, view_of}
use Rattle.activity_step.specs.declared.advance.Advance.TheVariants as advance
use Rattle.activity_step.specs.Called.{IsCalled}
use Rattle.activity_step.proofs.AdvanceLemmas.{stopped, could_contract, contracted}
use Rattle.activity_step.proofs.CallLemmas.{other_contracts, sends, asked_contracts}
use Rattle.step_machine.proofs.RowLemmas.{asked, asked_redex}
use Rattle.activity_step.proofs.state.State.asked_advance.Goals as goal

pub returns-in_ok-enter_body-in-Method : goal.returns-in_ok-enter_body-in-Method
returns-in_ok-enter_body-in-Method c = record {
  advance = λ t vs s ls h at.
      let k = c.args.code.now in
      let a = c.args.self.now in
      let v : View = view_of a.machine in
      let q = a.store.cells in
      let ops : List ℕ = last c.args.count a.machine.operands.items in
      let called : IsCalled k q a.machine.asked.label.text ops c.in_ok-callee.callee = c.in_ok-callee.ensures.called in
      let m = c.in-Method.method in
      let cs = c.in-Method.captured in
      let w : IsCalled k q a.machine.asked.label.text ops (callee.Method m cs) = subst (IsCalled k q a.machine.asked.label.text ops) c.in-Method.is called in
      let yes0 : c.args.go ≡ true = search (rules, c.if-go.true) in
      contracted k a (record { machine = c.enter_body.new.self; store = a.store; lines = a.lines }) t vs s ls c.args.go (called_view c.args.count (placed cs) m.now.body v) h yes0
      (asked_contracts k v c.args.count t vs q m cs h.machine at w) c.in_ok-enter_body-in-Method.ensures.view refl refl;
}

pub returns-else-go : goal.returns-else-go
returns-else-go c = record {
  advance = λ t vs s ls h at.
      let k = c.args.code.now in
      let a = c.args.self.now in
      let v : View = view_of a.machine in
      let q = a.store.cells in
      let ops : List ℕ = last c.args.count a.machine.operands.items in
      let called : IsCalled k q a.machine.asked.label.text ops c.in_ok-callee.callee = c.in_ok-callee.ensures.called in
      let m = c.in-Method.method in
      let cs = c.in-Method.captured in
      let w : IsCalled k q a.machine.asked.label.text ops (callee.Method m cs) = subst (IsCalled k q a.machine.asked.label.text ops) c.in-Method.is called in
      let no0 : c.args.go ≡ false = search (rules, c.if-go.false) in
      could_contract k a t vs s ls c.args.go (called_view c.args.count (placed cs) m.now.body v) h no0
      (asked_contracts k v c.args.count t vs q m cs h.machine at w);
}

pub returns-in-Activity : goal.returns-in-Activity
returns-in-Activity c = record {
  advance = λ t vs s ls h at.
      let k = c.args.code.now in
      let a = c.args.self.now in
      let v : View = view_of a.machine in
      let q = a.store.cells in
      let ops : List ℕ = last c.args.count a.machine.operands.items in
      let called : IsCalled k q a.machine.asked.label.text ops c.in_ok-callee.callee = c.in_ok-callee.ensures.called in
      let w : IsCalled k q a.machine.asked.label.text ops (callee.Activity c.in-Activity.field-0) = subst (IsCalled k q a.machine.asked.label.text ops) c.in-Activity.is called in
      stopped k a t vs s ls c.args.go c.args.count (value_redex (Call a.machine.asked.label.text) ops) advance.Sends h (asked_redex k v c.args.count t vs (asked k v c.args.count t vs h.machine at)) (sends k q a.machine.asked.label.text ops c.in-Activity.field-0 w);
}

pub returns-in-Other : goal.returns-in-Other
returns-in-Other c = record {
  advance = λ t vs s ls h at.
      let k = c.args.code.now in
      let a = c.args.self.now in
      let v : View = view_of a.machine in
      let q = a.store.cells in
      let ops : List ℕ = last c.args.count a.machine.operands.items in
      let called : IsCalled k q a.machine.asked.label.text ops c.in_ok-callee.callee = c.in_ok-callee.ensures.called in
      let w : IsCalled k q a.machine.asked.label.text ops (callee.Other c.in-Other.decision) = subst (IsCalled k q a.machine.asked.label.text ops) c.in-Other.is called in
      c.decided_advance.ensures.advance k t vs s ls (value_redex (Call a.machine.asked.label.text) ops) h (asked_redex k v c.args.count t vs (asked k v c.args.count t vs h.machine at)) (other_contracts k q a.machine.asked.label.text ops c.in-Other.decision w);
}
