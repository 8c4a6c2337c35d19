use Rattle.std.proofs.Common.{rules, ◌≡◌, ℕ, true, false, List, [], ◌∷◌, ◌++◌, length, map, refl, sym, ap, ◌∙◌}
use Rattle.std.proofs.lemmas.List.{append-nil}
use Rattle.asp_model.specs.Shapes.{line_shape}
use Rattle.asp_model.specs.Contraction.{Becomes, allots, contract}
use Rattle.asp_model.specs.Term.{loc}
use Rattle.code_table.specs.Cells as coded
use Rattle.code_table.specs.Shapes.{store_of}
use Rattle.step_machine.specs.Stacks.{last}
use Rattle.activity_step.proofs.AdvanceLemmas.{could, placed}
use Rattle.activity_step.proofs.ObjectLemmas.{allotted}
use Rattle.asp_model.specs.Term.{Group}
use Rattle.asp_model.specs.Store as store
use Rattle.step_rows.specs.Decisions.{value_redex}
use Rattle.activity_step.proofs.state.State.group_advance.Goals as goal

pub returns-then-not-go : goal.returns-then-not-go
returns-then-not-go c = record {
  advance = λ k t vs s ls h at.
      let a = c.args.self.now in
      let q = a.store.cells in
      let ops : List ℕ = last c.args.size a.machine.operands.items in
      let no0 : c.args.go ≡ false = search (rules, c.if-not-go.true) in
      could k a t vs s ls c.args.go c.args.count (value_redex Group ops) h at no0 (loc (length (store_of k q)), store_of k q ++ store.Group ops ∷ [], [], refl);
}

pub returns : goal.returns
returns c = record {
  advance = λ k t vs s ls h at.
      let a = c.args.self.now in
      let q = a.store.cells in
      let ops : List ℕ = last c.args.size a.machine.operands.items in
      let yes0 : c.args.go ≡ true = search (rules, c.if-not-go.false) in
      let members : c.last_operands.result.now ≡ ops = search (rules, c.last_operands.ensures.operands) in
      let row : contract (store_of k q) (value_redex Group ops) ≡ Becomes (loc c.in_ok-place.place) (store_of k c.add_group.new.self.cells) [] =
      ap (λ (l : List ℕ). allots (store_of k q) (store.Group l) []) (sym members)
      ∙ allotted k q c.add_group.new.self.cells (coded.Group c.last_operands.result.now) c.in_ok-place.place [] c.in_ok-place.ensures.place (search (rules, c.in_ok-place.ensures.cells)) in
      placed k a (record { machine = c.become_place.new.self; store = c.add_group.new.self; lines = a.lines }) t vs s ls c.args.go c.args.count (value_redex Group ops) c.in_ok-place.place [] h at yes0 row c.become_place.ensures.view (sym (append-nil (map line_shape a.lines.items)));
}
