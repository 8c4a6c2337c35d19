use Rattle.std.proofs.Common.{◌∙◌, ℕ, List, ap, sym, subst}
use Rattle.asp_model.specs.Term.{WaitAll}
use Rattle.asp_model.specs.Store.{CellShape, Store}
use Rattle.asp_model.specs.Contraction.{contract}
use Rattle.code_table.specs.Cells.{coded}
use Rattle.code_table.specs.Shapes.{store_of}
use Rattle.step_rows.specs.Decisions.{value_redex}
use Rattle.step_rows.specs.Groups.{IsSeenGroup}
use Rattle.step_rows.proofs.ReadLemmas.{cell_seen}
use Rattle.step_rows.proofs.GroupLemmas.{awaits}
use Rattle.step_rows.proofs.groups.wait_row.Goals as goal

pub returns : goal.returns
returns c = record {
  row = λ k.
      let s = c.args.store.now.cells in
      let S : Store = store_of k s in
      let x = c.in-Some.x in
      ap (λ (ns : List ℕ). contract S (value_redex WaitAll ns)) c.in-Some.ensures.one
      ∙ awaits S x.at c.group_of-group.result (subst (λ (d : CellShape). IsSeenGroup d c.group_of-group.result) (sym (cell_seen k s x.at (coded x.cell) c.in-Some.ensures.cell)) (c.group_of-group.ensures.seen k))
      ∙ c.wait_at.ensures.row k;
}
