use Rattle.std.proofs.Common.{rules, ◌≡◌, true, false, [], ◌∷◌, ◌++◌, length, refl, sym, ap, ◌∙◌}
use Rattle.asp_model.specs.Contraction.{Becomes, allots, contract}
use Rattle.asp_model.specs.Term.{loc}
use Rattle.code_table.specs.Cells as coded
use Rattle.code_table.specs.Shapes.{store_of}
use Rattle.activity_step.proofs.AdvanceLemmas.{could, placed}
use Rattle.activity_step.proofs.ObjectLemmas.{allotted, empty_object, text_printed}
use Rattle.asp_model.specs.Term.{Echo}
use Rattle.asp_model.specs.Contraction.{TextLine}
use Rattle.asp_model.specs.Store as store
use Rattle.step_rows.specs.Decisions.{value_redex}
use Rattle.activity_step.proofs.state.State.echo_advance.Goals as goal

pub returns-then-not-go : goal.returns-then-not-go
returns-then-not-go c = record {
  advance = λ k t vs s ls sound h at.
      let a = c.args.self.now in
      let q = a.store.cells in
      let no0 : c.args.go ≡ false = search (rules, c.if-not-go.true) in
      could k a t vs s ls c.args.go c.args.count (value_redex (Echo c.args.text.now) []) h at no0 (loc (length (store_of k q)), store_of k q ++ store.Object [] [] ∷ [], TextLine c.args.text.now ∷ [], refl);
}

pub returns : goal.returns
returns c = record {
  advance = λ k t vs s ls sound h at.
      let a = c.args.self.now in
      let q = a.store.cells in
      let w = c.args.text.now in
      let yes0 : c.args.go ≡ true = search (rules, c.if-not-go.false) in
      let row : contract (store_of k q) (value_redex (Echo w) []) ≡ Becomes (loc c.in_ok-place.place) (store_of k c.add_object.new.self.cells) (TextLine w ∷ []) =
      ap (λ d. allots (store_of k q) d (TextLine w ∷ [])) (sym (empty_object k sound))
      ∙ allotted k q c.add_object.new.self.cells (coded.Object 2 []) c.in_ok-place.place (TextLine w ∷ []) c.in_ok-place.ensures.place (search (rules, c.in_ok-place.ensures.cells)) in
      placed k a (record { machine = c.become_place.new.self; store = c.add_object.new.self; lines = c.push.new.self }) t vs s ls c.args.go c.args.count (value_redex (Echo w) []) c.in_ok-place.place (TextLine w ∷ []) h at yes0 row c.become_place.ensures.view (text_printed a.lines.items c.push.new.self.items c.in_ok-copy.field-0 w c.in_ok-push.ensures.items c.in_ok-copy.ensures.word);
}
