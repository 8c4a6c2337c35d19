use Rattle.std.proofs.Common.{◌<◌, ◌∙◌, length, sym, arith}
use Rattle.code_table.specs.Shown.{may_hold}
use Rattle.code_table.proofs.AnswerLemmas.{fails_at, passes_at}
use Rattle.code_table.proofs.answer.may_be_held.Goals as goal

pub returns-then-not-may_hold : goal.returns-then-not-may_hold
returns-then-not-may_hold c =
    let s = c.args.cells.now.items in
    let p = c.loop-at.at in
    let lt : p < length s = omega (arith, c.len-size.ensures, c.loop-at-test.true) in
    let here = (λ i. may_hold (sym c.len-size.ensures i) (sym c.view.ensures.view i)) ∙ sym c.may_hold.ensures
    ∙ c.if-not-may_hold.true in
    sym (c.loop-at.invariant.rest ∙ fails_at (may_hold (length s)) s p lt here)

pub loop-at-preserved : goal.loop-at-preserved
loop-at-preserved c =
    let s = c.args.cells.now.items in
    let p = c.loop-at.at in
    let lt : p < length s = omega (arith, c.len-size.ensures, c.loop-at-test.true) in
    let here = (λ i. may_hold (sym c.len-size.ensures i) (sym c.view.ensures.view i)) ∙ sym c.may_hold.ensures
    ∙ c.if-not-may_hold.false in
    record {
      all = c.loop-at.invariant.all;
      rest = c.loop-at.invariant.rest
          ∙ passes_at (may_hold (length s)) s p lt here;
    }
