use Rattle.std.proofs.Common.{◌≡◌, ◌<◌, ◌∙◌, arith, length, sym}
use Rattle.asp_model.specs.Order.{same_name_same}
use Rattle.explain.proofs.SameLemmas.{map_same, same_more, same_whole, true_by_not}
use Rattle.explain.proofs.differences.same.are_same_numbers.Goals as goal

pub loop-i-preserved : goal.loop-i-preserved
loop-i-preserved c =
    let h : c.loop-i.i < length c.args.others.now = omega (arith, c.if-counts-others.false, c.loop-i-test.true) in
    let names = same_name_same _ _ (true_by_not _ (sym c.ne.ensures ∙ c.if-ne.false)) in
    same_more (λ x. x) c.args.counts.now c.args.others.now c.loop-i.i c.index-counts-i.result c.index-others-i.result c.index-counts-i.is c.index-others-i.is c.loop-i-test.true h
    (λ j. (names j, c.if-entry-other.false j)) c.loop-i.invariant

pub returns : goal.returns
returns c = λ t.
    let e : c.loop-i.i ≡ length c.args.counts.now = omega (arith, c.loop-i-test.false, c.loop-i.auto.i-end) in
    let f : c.loop-i.i ≡ length c.args.others.now = omega (arith, e, c.if-counts-others.false) in
    sym (map_same c.args.counts.now) ∙ same_whole (λ x. x) c.args.counts.now c.args.others.now c.loop-i.i e f c.loop-i.invariant ∙ map_same c.args.others.now
