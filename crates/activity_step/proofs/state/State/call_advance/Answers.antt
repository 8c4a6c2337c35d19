use Rattle.std.proofs.Common.{[], rules, ◌≡◌, ◌∙◌, ℕ, true, false, List, ap, refl, subst}
use Rattle.asp_model.specs.Term.{Call}
use Rattle.code_table.specs.Places.{placed}
use Rattle.step_rows.specs.declared.calls.Callee.TheVariants as callee
use Rattle.step_rows.specs.Decisions.{value_redex}
use Rattle.step_machine.specs.Rows.{called_view}
use Rattle.step_machine.specs.Stacks.{last}
use Rattle.step_machine.specs.Standing.{View, view_of}
use Rattle.activity_step.specs.declared.advance.Advance.TheVariants as advance
use Rattle.activity_step.specs.Called.{IsCalled}
use Rattle.activity_step.proofs.AdvanceLemmas.{stopped, could_contract, contracted}
use Rattle.step_machine.proofs.CallLemmas.{call_redex}
use Rattle.step_machine.specs.Spreads.{spread_view}
use Rattle.step_machine.specs.declared.frames.Spread.TheVariants as spread
use Rattle.activity_step.proofs.CallLemmas.{members_contract, method_contracts, other_contracts, sends}
use Rattle.activity_step.proofs.state.State.call_advance.Goals as goal

pub returns-in_ok-enter_body-in-Method : goal.returns-in_ok-enter_body-in-Method
returns-in_ok-enter_body-in-Method c = record {
  advance = λ t vs s ls h at.
      let k = c.args.code.now in
      let a = c.args.self.now in
      let v : View = view_of a.machine in
      let q = a.store.cells in
      let ops : List ℕ = last c.args.count a.machine.operands.items in
      let called : IsCalled k q c.args.label.now.label.text ops c.in_ok-callee.callee = subst (λ (l : List ℕ). IsCalled k q c.args.label.now.label.text l c.in_ok-callee.callee) c.last_operands-operands.ensures.operands c.in_ok-callee.ensures.called in
      let m = c.in-Method.method in
      let cs = c.in-Method.captured in
      let w : IsCalled k q c.args.label.now.label.text ops (callee.Method m cs) = subst (IsCalled k q c.args.label.now.label.text ops) c.in-Method.is called in
      let yes0 : c.args.go ≡ true = search (rules, c.if-go.true) in
      contracted k a (record { machine = c.enter_body.new.self; store = a.store; lines = a.lines }) t vs s ls c.args.go (called_view c.args.count (placed cs) m.now.body v) h yes0
      (method_contracts k v c.args.number c.args.count c.args.label.now.label.text t vs q m cs at w) c.in_ok-enter_body-in-Method.ensures.view refl refl;
}

pub returns-else-go : goal.returns-else-go
returns-else-go c = record {
  advance = λ t vs s ls h at.
      let k = c.args.code.now in
      let a = c.args.self.now in
      let v : View = view_of a.machine in
      let q = a.store.cells in
      let ops : List ℕ = last c.args.count a.machine.operands.items in
      let called : IsCalled k q c.args.label.now.label.text ops c.in_ok-callee.callee = subst (λ (l : List ℕ). IsCalled k q c.args.label.now.label.text l c.in_ok-callee.callee) c.last_operands-operands.ensures.operands c.in_ok-callee.ensures.called in
      let m = c.in-Method.method in
      let cs = c.in-Method.captured in
      let w : IsCalled k q c.args.label.now.label.text ops (callee.Method m cs) = subst (IsCalled k q c.args.label.now.label.text ops) c.in-Method.is called in
      let no0 : c.args.go ≡ false = search (rules, c.if-go.false) in
      could_contract k a t vs s ls c.args.go (called_view c.args.count (placed cs) m.now.body v) h no0
      (method_contracts k v c.args.number c.args.count c.args.label.now.label.text t vs q m cs at w);
}

pub returns-in-Activity : goal.returns-in-Activity
returns-in-Activity c = record {
  advance = λ t vs s ls h at.
      let k = c.args.code.now in
      let a = c.args.self.now in
      let v : View = view_of a.machine in
      let q = a.store.cells in
      let ops : List ℕ = last c.args.count a.machine.operands.items in
      let called : IsCalled k q c.args.label.now.label.text ops c.in_ok-callee.callee = subst (λ (l : List ℕ). IsCalled k q c.args.label.now.label.text l c.in_ok-callee.callee) c.last_operands-operands.ensures.operands c.in_ok-callee.ensures.called in
      let w : IsCalled k q c.args.label.now.label.text ops (callee.Activity c.in-Activity.field-0) = subst (IsCalled k q c.args.label.now.label.text ops) c.in-Activity.is called in
      stopped k a t vs s ls c.args.go c.args.count (value_redex (Call c.args.label.now.label.text) ops) advance.Sends h (call_redex k v c.args.number c.args.count c.args.label.now.label.text t vs at) (sends k q c.args.label.now.label.text ops c.in-Activity.field-0 w);
}

pub returns-in-Other : goal.returns-in-Other
returns-in-Other c = record {
  advance = λ t vs s ls h at.
      let k = c.args.code.now in
      let a = c.args.self.now in
      let v : View = view_of a.machine in
      let q = a.store.cells in
      let ops : List ℕ = last c.args.count a.machine.operands.items in
      let called : IsCalled k q c.args.label.now.label.text ops c.in_ok-callee.callee = subst (λ (l : List ℕ). IsCalled k q c.args.label.now.label.text l c.in_ok-callee.callee) c.last_operands-operands.ensures.operands c.in_ok-callee.ensures.called in
      let w : IsCalled k q c.args.label.now.label.text ops (callee.Other c.in-Other.decision) = subst (IsCalled k q c.args.label.now.label.text ops) c.in-Other.is called in
      c.decided_advance.ensures.advance k t vs s ls (value_redex (Call c.args.label.now.label.text) ops) h (call_redex k v c.args.number c.args.count c.args.label.now.label.text t vs at) (other_contracts k q c.args.label.now.label.text ops c.in-Other.decision w);
}

pub returns-in_ok-spread-in-Members : goal.returns-in_ok-spread-in-Members
returns-in_ok-spread-in-Members c = record {
  advance = λ t vs s ls h at.
      let k = c.args.code.now in
      let a = c.args.self.now in
      let v : View = view_of a.machine in
      let q = a.store.cells in
      let ops : List ℕ = last c.args.count a.machine.operands.items in
      let called : IsCalled k q c.args.label.now.label.text ops c.in_ok-callee.callee = subst (λ (l : List ℕ). IsCalled k q c.args.label.now.label.text l c.in_ok-callee.callee) c.last_operands-operands.ensures.operands c.in_ok-callee.ensures.called in
      let ns = c.in-Members.members in
      let w : IsCalled k q c.args.label.now.label.text ops (callee.Members ns) = subst (IsCalled k q c.args.label.now.label.text ops) c.in-Members.is called in
      let yes0 : c.args.go ≡ true = search (rules, c.if-go-2.true) in
      contracted k a (record { machine = c.spread.new.self; store = a.store; lines = a.lines }) t vs s ls c.args.go (spread_view spread.Same c.args.number c.args.count (placed ns) [] v) h yes0
      (members_contract k v c.args.number c.args.count c.args.label.now.label.text t vs q ns at w) (c.in_ok-spread-in-Members.ensures.view ∙ ap (λ (xs : List ℕ). spread_view spread.Same c.args.number c.args.count (placed ns) xs v) c.of.ensures.places) refl refl;
}

pub returns-else-go-2 : goal.returns-else-go-2
returns-else-go-2 c = record {
  advance = λ t vs s ls h at.
      let k = c.args.code.now in
      let a = c.args.self.now in
      let v : View = view_of a.machine in
      let q = a.store.cells in
      let ops : List ℕ = last c.args.count a.machine.operands.items in
      let called : IsCalled k q c.args.label.now.label.text ops c.in_ok-callee.callee = subst (λ (l : List ℕ). IsCalled k q c.args.label.now.label.text l c.in_ok-callee.callee) c.last_operands-operands.ensures.operands c.in_ok-callee.ensures.called in
      let ns = c.in-Members.members in
      let w : IsCalled k q c.args.label.now.label.text ops (callee.Members ns) = subst (IsCalled k q c.args.label.now.label.text ops) c.in-Members.is called in
      let no0 : c.args.go ≡ false = search (rules, c.if-go-2.false) in
      could_contract k a t vs s ls c.args.go (spread_view spread.Same c.args.number c.args.count (placed ns) [] v) h no0
      (members_contract k v c.args.number c.args.count c.args.label.now.label.text t vs q ns at w);
}
