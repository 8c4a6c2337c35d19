use Rattle.std.proofs.Common.{◌<◌, ◌∙◌, length, arith}
use Rattle.code_table.specs.Cells.{coded}
use Rattle.code_table.specs.Shown.{answer_items}
use Rattle.code_table.proofs.AnswerLemmas.{copied_more}
use Rattle.code_table.proofs.answer.columns_of.Goals as goal

pub loop-at-preserved : goal.loop-at-preserved
loop-at-preserved c =
    let s = answer_items c.args.answer.now in
    let lt : c.loop-at.at < length s = omega (arith, c.len-in-loop-at.ensures.length, c.loop-at-test.true) in
    c.in_ok-push_moved.ensures.items ∙ copied_more s c.loop-at.at c.loop-at.columns.items
    (coded c.view.result) lt c.loop-at.invariant c.view.ensures.view
