use Rattle.std.proofs.Common.{◌≡◌, ℕ, List, IfOk, sym, ap, subst, ◌∙◌}
use Rattle.asp_model.specs.Contraction.{Contraction, get_row}
use Rattle.code_table.specs.declared.code.Node.{Node}
use Rattle.code_table.specs.Classes.{class_at}
use Rattle.code_table.specs.declared.cells.View.{View}
use Rattle.code_table.specs.Shapes.{cell_shape, class_object, store_of}
use Rattle.code_table.specs.Places.{placed}
use Rattle.step_rows.specs.Decisions.{decided, read}
use Rattle.step_rows.proofs.ReadLemmas.{object_read}
use Rattle.step_rows.proofs.fields.get.Goals as goal

pub returns-in-Object : goal.returns-in-Object
returns-in-Object c = record {
  row = λ s.
      let k : List Node = c.args.code.now in
      let l = c.args.label.now.label.text in
      let i : ℕ = c.args.place in
      let o = c.in-Object.object in
      let e : get_row (store_of k s) l (class_object k (placed o.places) (class_at k o.class)) ≡ read i (get_row (store_of k s) l) (cell_shape k c.args.cell) =
      sym (object_read i (get_row (store_of k s) l) k (placed o.places) (class_at k o.class)) ∙ ap (λ (x : View). read i (get_row (store_of k s) l) (cell_shape k x)) (sym c.in-Object.is) in
      subst (λ (x : Contraction). IfOk c.get_in.result (λ d. x ≡ decided k s d)) e (c.get_in.ensures.row s);
}
