use Rattle.std.proofs.Common.{◌≡◌, ◌∙◌, ◌∷◌, [], length, sym, ap, arith}
use Rattle.code_table.specs.Cells.{CodedCell}
use Rattle.code_table.proofs.AnswerLemmas.{only_one}
use Rattle.code_table.proofs.answer.lone.Goals as goal

pub returns-then-len-eq1 : goal.returns-then-len-eq1
returns-then-len-eq1 c =
    let one : length c.args.cells.now.items ≡ 1 = omega (arith, c.len.ensures, c.if-len-eq1.true) in
    record { cell = only_one c.args.cells.now.items one ∙ ap (λ (d : CodedCell). d ∷ []) (sym c.view.ensures.view) }
