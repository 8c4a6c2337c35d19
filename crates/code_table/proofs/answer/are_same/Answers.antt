use Rattle.std.proofs.Common.{◌<◌, ◌∙◌, T, length, sym, subst, arith}
use Rattle.code_table.specs.Shown.{answer_items, same_coded}
use Rattle.code_table.proofs.AnswerLemmas.{alike_more, differ_at}
use Rattle.code_table.proofs.answer.are_same.Goals as goal

pub returns-then-not-is_same : goal.returns-then-not-is_same
returns-then-not-is_same c =
    let s = answer_items c.args.answer.now in
    let t = c.args.cells.now.items in
    let p = c.loop-at.at in
    let here = (λ i. same_coded (sym c.view.ensures.view i) (sym c.view-in-loop-at.ensures.view i))
    ∙ sym c.is_same.ensures ∙ c.if-not-is_same.true in
    record { same = (λ h. absurd (subst T (sym h) tt), λ is. absurd (differ_at s t p here is)) }

pub loop-at-preserved : goal.loop-at-preserved
loop-at-preserved c =
    let s = answer_items c.args.answer.now in
    let t = c.args.cells.now.items in
    let p = c.loop-at.at in
    let lt : p < length t = omega (arith, c.len.ensures, c.loop-at-test.true) in
    let ls : p < length s = omega (arith, c.requires.long, lt) in
    let here = (λ i. same_coded (sym c.view.ensures.view i) (sym c.view-in-loop-at.ensures.view i))
    ∙ sym c.is_same.ensures ∙ c.if-not-is_same.false in
    alike_more s t p ls lt here c.loop-at.invariant
