use Rattle.std.proofs.Common.{◌∙◌}
use Rattle.asp_model.specs.Term.{Size}
use Rattle.asp_model.specs.Store.{Store}
use Rattle.asp_model.specs.Contraction as contraction
use Rattle.code_table.specs.Cells.{coded}
use Rattle.code_table.specs.Shapes.{cell_of, store_of}
use Rattle.step_rows.proofs.ReadLemmas.{size_reads, one_row}
use Rattle.step_rows.proofs.GroupLemmas.{sizes}
use Rattle.step_rows.proofs.groups.size_row.Goals as goal

pub returns : goal.returns
returns c = record {
  row = λ k.
      let s = c.args.store.now.cells in
      let S : Store = store_of k s in
      let x = c.in-Some.x in
      one_row k s Size c.args.operands.now x.at (coded x.cell) (contraction.size_row S) c.in-Some.ensures.one c.in-Some.ensures.cell (size_reads S x.at)
      ∙ sizes S x.at (cell_of k (coded x.cell)) c.group_of-group.result (c.group_of-group.ensures.seen k) ∙ c.size_at.ensures.row k s;
}
