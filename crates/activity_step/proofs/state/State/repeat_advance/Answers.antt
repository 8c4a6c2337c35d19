use Rattle.std.proofs.Common.{rules, ◌≡◌, true, false, refl}
use Rattle.code_table.specs.Shapes.{store_of}
use Rattle.step_machine.specs.Rows.{node_view}
use Rattle.step_machine.specs.Standing.{View, view_of}
use Rattle.activity_step.proofs.AdvanceLemmas.{could_contract, contracted}
use Rattle.activity_step.proofs.TermLemmas.{repeat_contracts, again_contracts}
use Rattle.activity_step.proofs.state.State.repeat_advance.Goals as goal

pub returns-then-go : goal.returns-then-go
returns-then-go c = record {
  advance = λ k n t vs s ls h at is.
      let a = c.args.self.now in
      let v : View = view_of a.machine in
      let q = store_of k a.store.cells in
      let first : c.args.from ≡ 0 = search (rules, c.if-from-eq0.true) in
      let yes0 : c.args.go ≡ true = search (rules, c.if-go.true) in
      contracted k a (record { machine = c.become_node.new.self; store = a.store; lines = a.lines }) t vs s ls c.args.go (node_view c.args.count c.args.number 1 v) h yes0
      (repeat_contracts k v c.args.number c.args.from c.args.count n t vs q h.machine at is first) c.become_node.ensures.view refl refl;
}

pub returns-else-go : goal.returns-else-go
returns-else-go c = record {
  advance = λ k n t vs s ls h at is.
      let a = c.args.self.now in
      let v : View = view_of a.machine in
      let q = store_of k a.store.cells in
      let first : c.args.from ≡ 0 = search (rules, c.if-from-eq0.true) in
      let no0 : c.args.go ≡ false = search (rules, c.if-go.false) in
      could_contract k a t vs s ls c.args.go (node_view c.args.count c.args.number 1 v) h no0
      (repeat_contracts k v c.args.number c.args.from c.args.count n t vs q h.machine at is first);
}

pub returns-then-go-2 : goal.returns-then-go-2
returns-then-go-2 c = record {
  advance = λ k n t vs s ls h at is.
      let a = c.args.self.now in
      let v : View = view_of a.machine in
      let q = store_of k a.store.cells in
      let yes0 : c.args.go ≡ true = search (rules, c.if-go-2.true) in
      contracted k a (record { machine = c.become_node-then-go-2.new.self; store = a.store; lines = a.lines }) t vs s ls c.args.go (node_view c.args.count c.args.number 0 v) h yes0
      (again_contracts k v c.args.number c.args.from c.args.count c.in-Some._place n t vs q h.machine at is c.in-Some.ensures.one) c.become_node-then-go-2.ensures.view refl refl;
}

pub returns-else-go-2 : goal.returns-else-go-2
returns-else-go-2 c = record {
  advance = λ k n t vs s ls h at is.
      let a = c.args.self.now in
      let v : View = view_of a.machine in
      let q = store_of k a.store.cells in
      let no0 : c.args.go ≡ false = search (rules, c.if-go-2.false) in
      could_contract k a t vs s ls c.args.go (node_view c.args.count c.args.number 0 v) h no0
      (again_contracts k v c.args.number c.args.from c.args.count c.in-Some._place n t vs q h.machine at is c.in-Some.ensures.one);
}
