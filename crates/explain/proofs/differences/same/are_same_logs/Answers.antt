use Rattle.std.proofs.Common.{◌≡◌, ◌<◌, ◌∙◌, ap, arith, length, map, sym}
use Rattle.asp_model.specs.Order.{same_name_same}
use Rattle.asp_model.specs.Shapes.{reception_shape}
use Rattle.explain.specs.OrderKept.{log_entry}
use Rattle.explain.proofs.SameLemmas.{same_more, same_whole, true_by_not}
use Rattle.explain.proofs.differences.same.are_same_logs.Goals as goal

pub loop-i-preserved : goal.loop-i-preserved
loop-i-preserved c =
    let h : c.loop-i.i < length c.args.others.now = omega (arith, c.if-lists-others.false, c.loop-i-test.true) in
    let names = same_name_same _ _ (true_by_not _ (sym c.ne.ensures ∙ c.if-ne.false)) in
    let logs = ap (map reception_shape) (sym c.deref.ensures.value) ∙ c.is_same_log.ensures c.if-not-is_same_log.false ∙ ap (map reception_shape) c.deref-else-ne.ensures.value in
    same_more log_entry c.args.lists.now c.args.others.now c.loop-i.i c.index-lists-i.result c.index-others-i.result c.index-lists-i.is c.index-others-i.is c.loop-i-test.true h
    (λ j. (names j, logs j)) c.loop-i.invariant

pub returns : goal.returns
returns c = λ t.
    let e : c.loop-i.i ≡ length c.args.lists.now = omega (arith, c.loop-i-test.false, c.loop-i.auto.i-end) in
    let f : c.loop-i.i ≡ length c.args.others.now = omega (arith, e, c.if-lists-others.false) in
    same_whole log_entry c.args.lists.now c.args.others.now c.loop-i.i e f c.loop-i.invariant
