use Rattle.std.proofs.Common.{◌≡◌, ap, sym, refl, ◌∙◌, to_z, of_z, w64, rules}
use Rattle.asp_model.specs.Store.{Number}
use Rattle.code_table.specs.Cells.{coded}
use Rattle.step_rows.proofs.ReadLemmas.{cell_seen}
use Rattle.step_rows.proofs.near.near_test.Goals as goal

pub returns-in-Number : goal.returns-in-Number
returns-in-Number c = record {
  test = λ k.
      let at = c.in-Some.at in
      let x = c.in-Some-near.cell in
      let same : to_z w64 (of_z w64 c.in-Number.number) ≡ c.in-Number.number = search rules in
      (c.in-Some.ensures.one, cell_seen k c.args.store.now.cells at (coded x) c.in-Some-near.ensures.cell ∙ c.in-Number.ensures.seen k ∙ ap Number (sym same));
}
