use Rattle.std.proofs.Common.{[], ◌∷◌, refl, ◌∙◌}
use Rattle.asp_model.specs.Shapes.{sign_shape}
use Rattle.asp_model.specs.Term.{Operate}
use Rattle.asp_model.specs.Store.{Store}
use Rattle.asp_model.specs.Contraction as contraction
use Rattle.code_table.specs.Cells.{coded}
use Rattle.code_table.specs.Shapes.{cell_of, store_of}
use Rattle.step_rows.proofs.ReadLemmas.{operate_reads, two_row, operates}
use Rattle.step_rows.proofs.near.near_operate.Goals as goal

pub returns : goal.returns
returns c = record {
  row = λ k.
      let s = c.args.store.now.cells in
      let S : Store = store_of k s in
      let sign = sign_shape c.args.sign in
      let i = c.args.at in
      let j = c.args.other in
      let x = c.in-Some.cell in
      let y = c.in-Some-near.cell in
      two_row k s (Operate sign) (i ∷ j ∷ []) i j (coded x) (coded y) (contraction.operate_row S sign) refl c.in-Some.ensures.cell c.in-Some-near.ensures.cell (operate_reads S sign i j)
      ∙ operates S sign i j (cell_of k (coded x)) (cell_of k (coded y)) c.sight_of-first.result c.sight_of-second.result (c.sight_of-first.ensures.seen k) (c.sight_of-second.ensures.seen k)
      ∙ c.operate_at.ensures.row k s;
}
