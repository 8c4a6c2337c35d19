use Rattle.std.proofs.Common.{sym, subst}
use Rattle.code_table.specs.Cells.{coded}
use Rattle.step_rows.proofs.ReadLemmas.{cell_seen}
use Rattle.step_activity.specs.Stances.{IsFutureOf}
use Rattle.core_state.proofs.target.future_at.Goals as goal

pub returns : goal.returns
returns c = record {
  held = λ k. subst (λ z. IsFutureOf z c.future_of.result) (sym (cell_seen k c.args.store.now.cells c.args.place (coded c.cell.result) c.cell.ensures.cell)) (c.future_of.ensures.future k);
}
