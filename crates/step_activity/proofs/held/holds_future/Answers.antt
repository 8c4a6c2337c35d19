use Rattle.std.proofs.Common.{sym, ap, ◌∙◌}
use Rattle.asp_model.specs.Contraction.{is_future}
use Rattle.code_table.specs.Cells.{coded}
use Rattle.step_rows.proofs.ReadLemmas.{cell_seen}
use Rattle.step_activity.proofs.held.holds_future.Goals as goal

pub returns : goal.returns
returns c = record {
  holds = λ k. c.is_future.ensures k ∙ sym (ap is_future (cell_seen k c.args.store.now.cells c.args.place (coded c.cell.result) c.cell.ensures.cell));
}
