use Rattle.std.proofs.Common.{◌∙◌, sym, subst}
use Rattle.asp_model.specs.Term.{Scatter}
use Rattle.asp_model.specs.Store.{Store}
use Rattle.asp_model.specs.Contraction as contraction
use Rattle.asp_model.specs.Contraction.{Contraction}
use Rattle.code_table.specs.Cells.{coded}
use Rattle.code_table.specs.Shapes.{cell_of, store_of}
use Rattle.step_rows.specs.Groups.{IsScattering}
use Rattle.step_rows.proofs.ReadLemmas.{scatter_reads, two_row}
use Rattle.step_rows.proofs.GroupLemmas.{scattering}
use Rattle.step_rows.proofs.groups.scatter_row.Goals as goal

pub returns : goal.returns
returns c = record {
  row = λ k l.
      let s = c.args.store.now.cells in
      let S : Store = store_of k s in
      let i = c.in-Some.at in
      let j = c.in-Some.other in
      let x = coded c.in-Some-look.cell in
      let y = coded c.in-Some-look-2.cell in
      subst (λ (e : Contraction). IsScattering k s l e c.scatter_at.result)
      (sym
      (two_row k s (Scatter l) c.args.operands.now i j x y (contraction.scatter_row S l) c.in-Some.ensures.two c.in-Some-look.ensures.cell c.in-Some-look-2.ensures.cell (scatter_reads S l i j)
      ∙ scattering S l i j (cell_of k x) (cell_of k y) c.group_of-first.result c.group_of-second.result (c.group_of-first.ensures.seen k) (c.group_of-second.ensures.seen k)))
      (c.scatter_at.ensures.row k s l);
}
