use Rattle.std.proofs.Common.{rules, ◌≡◌, ◌+◌, ℕ, true, false, refl, sym, ap, ◌∙◌}
use Rattle.code_table.specs.declared.code.Node.{Node}
use Rattle.code_table.specs.Tables.{pieces, pieces_of, piece_of}
use Rattle.code_laws.specs.Nodes.{nth}
use Rattle.code_table.specs.Shapes.{store_of}
use Rattle.step_machine.specs.Rows.{child_view}
use Rattle.step_machine.specs.Standing.{View, view_of}
use Rattle.activity_step.proofs.AdvanceLemmas.{could_contract, contracted}
use Rattle.activity_step.proofs.TermLemmas.{last_contracts}
use Rattle.activity_step.proofs.state.State.last_step.Goals as goal

pub returns-in_ok-become_child : goal.returns-in_ok-become_child
returns-in_ok-become_child c = record {
  advance = λ k number place t vs s ls h at is operands_are size.
      let a = c.args.self.now in
      let v : View = view_of a.machine in
      let q = store_of k a.store.cells in
      let x = c.in-Some.child.now in
      let n : Node = c.args.node.now in
      let next : c.in_ok-next.next ≡ c.args.from + 1 = search (rules, c.in_ok-next.ensures, c.checked_add.ensures) in
      let child_is : nth (c.args.from + 1) (pieces_of (pieces k) n.children.items) ≡ piece_of (pieces k) x = ap (λ (i : ℕ). nth i (pieces_of (pieces k) n.children.items)) (sym next) ∙ c.in-Some.ensures.child (pieces k) in
      let yes0 : c.args.go ≡ true = search (rules, c.if-go.true) in
      contracted k a (record { machine = c.become_child.new.self; store = a.store; lines = a.lines }) t vs s ls c.args.go (child_view c.args.count x v) h yes0
      (last_contracts k v number c.args.from c.args.count place n x t vs q h.machine at is operands_are size child_is) c.in_ok-become_child.ensures.view refl refl;
}

pub returns-else-go : goal.returns-else-go
returns-else-go c = record {
  advance = λ k number place t vs s ls h at is operands_are size.
      let a = c.args.self.now in
      let v : View = view_of a.machine in
      let q = store_of k a.store.cells in
      let x = c.in-Some.child.now in
      let n : Node = c.args.node.now in
      let next : c.in_ok-next.next ≡ c.args.from + 1 = search (rules, c.in_ok-next.ensures, c.checked_add.ensures) in
      let child_is : nth (c.args.from + 1) (pieces_of (pieces k) n.children.items) ≡ piece_of (pieces k) x = ap (λ (i : ℕ). nth i (pieces_of (pieces k) n.children.items)) (sym next) ∙ c.in-Some.ensures.child (pieces k) in
      let no0 : c.args.go ≡ false = search (rules, c.if-go.false) in
      could_contract k a t vs s ls c.args.go (child_view c.args.count x v) h no0
      (last_contracts k v number c.args.from c.args.count place n x t vs q h.machine at is operands_are size child_is);
}
