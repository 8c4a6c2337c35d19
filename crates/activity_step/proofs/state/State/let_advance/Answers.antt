use Rattle.std.proofs.Common.{rules, ◌≡◌, true, false, [], refl}
use Rattle.code_table.specs.Tables.{pieces}
use Rattle.code_table.specs.Shapes.{store_of}
use Rattle.step_machine.specs.Rows.{Contracts, bound_view}
use Rattle.step_machine.specs.Standing.{View, view_of}
use Rattle.activity_step.proofs.AdvanceLemmas.{could_contract, contracted}
use Rattle.activity_step.proofs.TermLemmas.{let_contracts}
use Rattle.activity_step.proofs.state.State.let_advance.Goals as goal

pub returns-in_ok-bind : goal.returns-in_ok-bind
returns-in_ok-bind c = record {
  advance = λ k number from x t vs s ls h at is.
      let a = c.args.self.now in
      let v : View = view_of a.machine in
      let q = store_of k a.store.cells in
      let row : Contracts k t vs q q [] (bound_view c.args.count c.in-Some.place c.in-Some-child_at.body.now v) =
      let_contracts k v number from c.args.count c.in-Some.place c.args.node.now x c.in-Some-child_at.body.now t vs q h.machine at is c.in-Some.ensures.one (c.in-Some-child_at.ensures.child (pieces k)) in
      let yes0 : c.args.go ≡ true = search (rules, c.if-go.true) in
      contracted k a (record { machine = c.bind.new.self; store = a.store; lines = a.lines }) t vs s ls c.args.go (bound_view c.args.count c.in-Some.place c.in-Some-child_at.body.now v) h yes0 row c.in_ok-bind.ensures.view refl refl;
}

pub returns-else-go : goal.returns-else-go
returns-else-go c = record {
  advance = λ k number from x t vs s ls h at is.
      let a = c.args.self.now in
      let v : View = view_of a.machine in
      let q = store_of k a.store.cells in
      let no0 : c.args.go ≡ false = search (rules, c.if-go.false) in
      could_contract k a t vs s ls c.args.go (bound_view c.args.count c.in-Some.place c.in-Some-child_at.body.now v) h no0
      (let_contracts k v number from c.args.count c.in-Some.place c.args.node.now x c.in-Some-child_at.body.now t vs q h.machine at is c.in-Some.ensures.one (c.in-Some-child_at.ensures.child (pieces k)));
}
