use Rattle.std.proofs.Common.{rules, ◌≡◌, ℕ, true, false, List, [], ◌∷◌, ◌++◌, length, map, drop, sym, ap, ◌∙◌}
use Rattle.std.proofs.lemmas.List.{append-nil}
use Rattle.asp_model.specs.Shapes.{line_shape}
use Rattle.asp_model.specs.Contraction.{Becomes, allots, contract}
use Rattle.asp_model.specs.Term.{loc}
use Rattle.code_table.specs.Cells as coded
use Rattle.code_table.specs.Shapes.{class_object, store_of}
use Rattle.step_machine.specs.Stacks.{last}
use Rattle.step_machine.specs.Standing.{View, view_of}
use Rattle.activity_step.proofs.AdvanceLemmas.{could, placed}
use Rattle.activity_step.proofs.ObjectLemmas.{allotted, made_at}
use Rattle.code_table.specs.Classes.{class_at}
use Rattle.code_table.specs.Tables.{object_of, pieces}
use Rattle.code_laws.specs.Places.{kept_places}
use Rattle.activity_step.proofs.state.State.make_advance.Goals as goal

pub returns-then-not-go : goal.returns-then-not-go
returns-then-not-go c = record {
  advance = λ k from n t vs s ls h at class is.
      let a = c.args.self.now in
      let v : View = view_of a.machine in
      let q = a.store.cells in
      let no0 : c.args.go ≡ false = search (rules, c.if-not-go.true) in
      let o = made_at k v c.args.number from c.args.count n c.args.class.now t vs h.machine at is in
      could k a t vs s ls c.args.go c.args.count o.redex h o.at no0
      (loc (length (store_of k q)), store_of k q ++ object_of (pieces k) c.args.class.now (last c.args.count v.operands ++ kept_places (drop v.base v.env) c.args.class.now.methods.items) ∷ [], [], o.row_is (store_of k q));
}

pub returns : goal.returns
returns c = record {
  advance = λ k from n t vs s ls h at class is.
      let a = c.args.self.now in
      let v : View = view_of a.machine in
      let q = a.store.cells in
      let x = c.args.class.now in
      let yes0 : c.args.go ≡ true = search (rules, c.if-not-go.false) in
      let o = made_at k v c.args.number from c.args.count n x t vs h.machine at is in
      let ns : List ℕ = last c.args.count v.operands ++ kept_places (drop v.base v.env) x.methods.items in
      let cell_is : class_object k ns (class_at k c.args.number) ≡ object_of (pieces k) x ns = ap (class_object k ns) (class ∙ is) in
      let row : contract (store_of k q) o.redex ≡ Becomes (loc c.in_ok-place.place) (store_of k c.add_made.new.store.cells) [] =
      o.row_is (store_of k q) ∙ ap (λ d. allots (store_of k q) d []) (sym cell_is)
      ∙ allotted k q c.add_made.new.store.cells (coded.Object c.args.number ns) c.in_ok-place.place [] c.in_ok-place.ensures.place (search (rules, c.in_ok-place.ensures.cells)) in
      placed k a (record { machine = c.become_place.new.self; store = c.add_made.new.store; lines = a.lines }) t vs s ls c.args.go c.args.count o.redex c.in_ok-place.place [] h o.at yes0 row c.become_place.ensures.view (sym (append-nil (map line_shape a.lines.items)));
}
