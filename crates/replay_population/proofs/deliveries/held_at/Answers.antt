use Rattle.std.proofs.Common.{◌≤◌, length, rules, sym, subst}
use Rattle.code_table.specs.Cells.{coded}
use Rattle.step_rows.proofs.GroupLemmas.{past_future}
use Rattle.step_rows.proofs.ReadLemmas.{cell_seen}
use Rattle.step_activity.specs.Stances.{IsFutureOf}
use Rattle.replay_population.proofs.deliveries.held_at.Goals as goal

pub returns : goal.returns
returns c = record {
  held = λ k. subst (λ z. IsFutureOf z c.future_of.result) (sym (cell_seen k c.args.store.now.cells c.args.place (coded c.cell.result) c.cell.ensures.cell)) (c.future_of.ensures.future k);
}

pub returns-then-place-len : goal.returns-then-place-len
returns-then-place-len c =
    let le : length c.args.store.now.cells ≤ c.args.place = search rules in
    record { held = λ k. sym (past_future k c.args.store.now.cells c.args.place le) }
