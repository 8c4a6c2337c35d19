use Rattle.std.proofs.Common.{◌≡◌, sym, ap, ◌∙◌, to_z, of_z, w64, rules}
use Rattle.asp_model.specs.Shapes.{sign_shape}
use Rattle.code_table.specs.Shapes.{store_of}
use Rattle.step_rows.specs.Numbers.{answer, answered}
use Rattle.step_rows.proofs.NumberLemmas.{operate_answers}
use Rattle.step_rows.proofs.rows.answer_of.Goals as goal

pub returns-in-Err : goal.returns-in-Err
returns-in-Err c = record {
  row = λ k s.
      let sign = sign_shape c.args.sign in
      let same_x : to_z w64 (of_z w64 c.args.x) ≡ c.args.x = search rules in
      let same_y : to_z w64 (of_z w64 c.args.y) ≡ c.args.y = search rules in
      let given : c.operate.result ≡ answer sign c.args.x c.args.y = c.operate.ensures.answer ∙ (λ i. answer sign (same_x i) (same_y i)) in
      sym (operate_answers (store_of k s) sign c.args.x c.args.y) ∙ ap (answered (store_of k s)) (sym given ∙ c.in-Err.is);
}
