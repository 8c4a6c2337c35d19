use Rattle.std.proofs.Common.{subst}
use Rattle.asp_model.specs.Store.{CellShape}
use Rattle.code_table.specs.Cells.{coded}
use Rattle.wait_need.specs.Peeks.{IsPeekNeed}
use Rattle.wait_need.proofs.NeedLemmas.{cell_there}
use Rattle.wait_need.proofs.peeks.peek_need.Goals as goal

pub returns : goal.returns
returns c = record {
  need = λ k. subst (λ (x : CellShape). IsPeekNeed x c.of_cell.result)
      (cell_there k c.args.store.now.cells c.args.loc (coded c.cell.result) c.cell.ensures.cell)
      (c.of_cell.ensures.need k);
}
