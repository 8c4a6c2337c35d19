use Rattle.std.proofs.Common.{rules, ◌≡◌, ◌+◌, ℕ, true, false, refl, ap, ◌∙◌}
use Rattle.code_table.specs.Shapes.{store_of}
use Rattle.step_machine.specs.Rows.{node_view}
use Rattle.step_machine.specs.Standing.{View, view_of}
use Rattle.activity_step.proofs.AdvanceLemmas.{could_contract, contracted}
use Rattle.activity_step.proofs.TermLemmas.{next_contracts}
use Rattle.activity_step.proofs.state.State.next_steps.Goals as goal

pub returns-then-go : goal.returns-then-go
returns-then-go c = record {
  advance = λ k place t vs s ls h at is operands_are differs.
      let a = c.args.self.now in
      let v : View = view_of a.machine in
      let q = store_of k a.store.cells in
      let next : c.in_ok-next.next ≡ c.args.from + 1 = search (rules, c.in_ok-next.ensures, c.checked_add.ensures) in
      let yes0 : c.args.go ≡ true = search (rules, c.if-go.true) in
      contracted k a (record { machine = c.become_node.new.self; store = a.store; lines = a.lines }) t vs s ls c.args.go (node_view c.args.count c.args.number (c.args.from + 1) v) h yes0
      (next_contracts k v c.args.number c.args.from c.args.count place c.args.node.now t vs q h.machine at is operands_are differs)
      (c.become_node.ensures.view ∙ ap (λ (i : ℕ). node_view c.args.count c.args.number i v) next) refl refl;
}

pub returns-else-go : goal.returns-else-go
returns-else-go c = record {
  advance = λ k place t vs s ls h at is operands_are differs.
      let a = c.args.self.now in
      let v : View = view_of a.machine in
      let q = store_of k a.store.cells in
      let no0 : c.args.go ≡ false = search (rules, c.if-go.false) in
      could_contract k a t vs s ls c.args.go (node_view c.args.count c.args.number (c.args.from + 1) v) h no0
      (next_contracts k v c.args.number c.args.from c.args.count place c.args.node.now t vs q h.machine at is operands_are differs);
}
