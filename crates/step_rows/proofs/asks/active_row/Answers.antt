use Rattle.code_table.specs.Cells.{coded}
use Rattle.step_rows.proofs.AskLemmas.{creation_row}
use Rattle.step_rows.proofs.asks.active_row.Goals as goal

pub returns : goal.returns
returns c = record {
  creation = λ k service. creation_row k c.args.store.now.cells c.args.operands.now service c.in-Some.x.at (coded c.in-Some.x.cell) c.creation_at.result c.in-Some.ensures.one c.in-Some.ensures.cell (c.creation_at.ensures.creation k service);
}
