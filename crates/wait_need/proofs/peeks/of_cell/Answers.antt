use Rattle.std.proofs.Common.{sym, subst}
use Rattle.code_table.specs.declared.cells.View.{View}
use Rattle.code_table.specs.Shapes.{cell_shape}
use Rattle.wait_need.specs.Peeks.{IsPeekNeed}
use Rattle.wait_need.proofs.peeks.of_cell.Goals as goal

pub returns-in-Future : goal.returns-in-Future
returns-in-Future c = record {
  need = λ k. subst (λ (v : View). IsPeekNeed (cell_shape k v) c.of_future.result) (sym c.in-Future.is) c.of_future.ensures.need;
}
