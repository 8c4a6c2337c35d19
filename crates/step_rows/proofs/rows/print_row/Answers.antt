use Rattle.std.proofs.Common.{◌∙◌}
use Rattle.asp_model.specs.Term.{Print}
use Rattle.asp_model.specs.Store.{Store}
use Rattle.asp_model.specs.Contraction as contraction
use Rattle.code_table.specs.Cells.{coded}
use Rattle.code_table.specs.Shapes.{cell_of, store_of}
use Rattle.step_rows.proofs.ReadLemmas.{print_reads, one_row, prints}
use Rattle.step_rows.proofs.rows.print_row.Goals as goal

pub returns : goal.returns
returns c = record {
  row = λ k.
      let s = c.args.store.now.cells in
      let S : Store = store_of k s in
      let x = c.in-Some.x in
      one_row k s Print c.args.operands.now x.at (coded x.cell) (contraction.print_row S x.at) c.in-Some.ensures.one c.in-Some.ensures.cell (print_reads S x.at)
      ∙ prints S x.at (cell_of k (coded x.cell)) c.sight_of-sight.result (c.sight_of-sight.ensures.seen k) ∙ c.print_at.ensures.row k s;
}
