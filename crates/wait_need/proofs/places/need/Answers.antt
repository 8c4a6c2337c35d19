use Rattle.std.proofs.Common.{◌∙◌}
use Rattle.asp_model.specs.Chase.{chase}
use Rattle.code_table.specs.Cells.{coded}
use Rattle.future_table.specs.Values.{values_of}
use Rattle.wait_need.proofs.NeedLemmas.{cell_needs}
use Rattle.wait_need.proofs.places.need.Goals as goal

pub returns : goal.returns
returns c = record { need = λ k. c.of_cell.ensures.need k ∙ cell_needs (chase (values_of c.args.futures.now)) k c.args.store.now.cells c.args.loc (coded c.cell.result) c.cell.ensures.cell }
