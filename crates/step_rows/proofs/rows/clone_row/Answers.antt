use Rattle.std.proofs.Common.{[], sym, ap, ◌∙◌}
use Rattle.asp_model.specs.Term.{Clone}
use Rattle.asp_model.specs.Store.{CellShape, Store}
use Rattle.asp_model.specs.Contraction.{Contraction, allots}
use Rattle.code_table.specs.Cells.{coded}
use Rattle.code_table.specs.Shapes.{cell_of, store_of}
use Rattle.step_rows.specs.Sights.{seen_or}
use Rattle.step_rows.proofs.ReadLemmas.{clone_reads, one_row, seen_read, cell_seen}
use Rattle.step_rows.proofs.rows.clone_row.Goals as goal

pub returns : goal.returns
returns c = record {
  row = λ k.
      let s = c.args.store.now.cells in
      let S : Store = store_of k s in
      let x = c.in-Some.x in
      let f : CellShape → Contraction = λ d. allots S d [] in
      one_row k s Clone c.args.operands.now x.at (coded x.cell) f c.in-Some.ensures.one c.in-Some.ensures.cell (clone_reads S x.at)
      ∙ seen_read x.at f (cell_of k (coded x.cell)) c.sight_of-sight.result (c.sight_of-sight.ensures.seen k)
      ∙ ap (λ (d : CellShape). seen_or x.at (f d) c.sight_of-sight.result) (sym (cell_seen k s x.at (coded x.cell) c.in-Some.ensures.cell))
      ∙ c.clone_at.ensures.row k s;
}
