use Rattle.std.proofs.Common.{◌≡◌, ap, sym, ◌∙◌, to_z, of_z, w64, rules}
use Rattle.asp_model.specs.Store.{Number}
use Rattle.code_table.specs.Cells.{coded}
use Rattle.step_rows.specs.declared.seen.Seen.TheVariants as seen
use Rattle.step_rows.proofs.AskLemmas.{test_is}
use Rattle.step_rows.proofs.ReadLemmas.{cell_seen}
use Rattle.step_rows.proofs.asks.test_row.Goals as goal

pub returns-in-Number : goal.returns-in-Number
returns-in-Number c = record {
  test = λ k.
      let x = c.in-Some.x in
      let same : to_z w64 (of_z w64 c.in-Number.number) ≡ c.in-Number.number = search rules in
      (c.in-Some.ensures.one, cell_seen k c.args.store.now.cells x.at (coded x.cell) c.in-Some.ensures.cell ∙ c.in-Number.ensures.seen k ∙ ap Number (sym same));
}

pub returns-in-Future : goal.returns-in-Future
returns-in-Future c = record {
  test = λ k a b. let x = c.in-Some.x in test_is k c.args.store.now.cells c.args.operands.now x.at (coded x.cell) seen.Future a b c.in-Some.ensures.one c.in-Some.ensures.cell (c.in-Future.ensures.seen k);
}

pub returns-in-Other : goal.returns-in-Other
returns-in-Other c = record {
  test = λ k a b. let x = c.in-Some.x in test_is k c.args.store.now.cells c.args.operands.now x.at (coded x.cell) seen.Other a b c.in-Some.ensures.one c.in-Some.ensures.cell (c.in-Other.ensures.seen k);
}
