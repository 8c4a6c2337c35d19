use Rattle.std.proofs.Common.{rules, ◌≡◌, ◌<◌, ◌++◌, ℕ, ℤ, [], ◌∷◌, length, refl, sym, ap, ◌∙◌, to_z, of_z, w64, arith}
use Rattle.asp_model.specs.Contraction as contraction
use Rattle.asp_model.specs.Shapes.{sign_shape}
use Rattle.asp_model.specs.Store.{Store}
use Rattle.asp_model.specs.Term.{Operate}
use Rattle.code_table.specs.Cells as cells
use Rattle.code_table.specs.Cells.{CodedStore, cell_at, coded}
use Rattle.code_table.specs.Shapes.{cell_of, store_of}
use Rattle.step_rows.specs.Decisions.{decided}
use Rattle.step_rows.specs.Sights.{operated}
use Rattle.step_rows.specs.declared.decision.Decision.TheVariants as decision
use Rattle.step_rows.specs.declared.seen.Seen.TheVariants as seen
use Rattle.step_rows.proofs.ReadLemmas.{cell_kept, operate_reads, operates, two_row}
use Rattle.step_rows.proofs.rows.operate_next.Goals as goal

pub returns-in-Number-answer_of : goal.returns-in-Number-answer_of
returns-in-Number-answer_of c = record {
  row = λ k added other at.
      let old : CodedStore = c.args.store.now.cells in
      let s : CodedStore = old ++ added in
      let S : Store = store_of k s in
      let sign = sign_shape c.args.sign in
      let i : ℕ = c.args.first in
      let x = c.in-Some.cell in
      let less : i < length old = c.in-Some.ensures.within in
      let same_x : to_z w64 (of_z w64 c.in-Number.x) ≡ c.in-Number.x = search rules in
      let same_y : to_z w64 (of_z w64 c.args.second) ≡ c.args.second = search rules in
      let same_n : to_z w64 (of_z w64 c.in-Number-answer_of.number) ≡ c.in-Number-answer_of.number = search rules in
      let first : coded x ≡ cell_at s i = c.in-Some.ensures.cell ∙ sym (cell_kept old added i less) in
      two_row k s (Operate sign) (i ∷ other ∷ []) i other (coded x) (cells.Number c.args.second) (contraction.operate_row S sign) refl first (sym at) (operate_reads S sign i other)
      ∙ operates S sign i other (cell_of k (coded x)) (cell_of k (cells.Number c.args.second)) c.sight_of.result (seen.Number c.args.second) (c.sight_of.ensures.seen k) refl
      ∙ ap (λ y. operated S sign i other y (seen.Number c.args.second)) c.in-Number.is
      ∙ sym (λ i. contraction.operate S sign (same_x i) (same_y i))
      ∙ c.answer_of.ensures.row k s ∙ ap (decided k s) (c.in-Number-answer_of.is ∙ ap (λ (z : ℤ). decision.Number z) (sym same_n));
}
