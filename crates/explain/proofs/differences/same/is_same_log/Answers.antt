use Rattle.std.proofs.Common.{◌≡◌, ◌<◌, ◌∙◌, arith, length, sym}
use Rattle.asp_model.specs.Shapes.{reception_shape}
use Rattle.law_steps.proofs.NameLemmas.{receptions_tied}
use Rattle.explain.proofs.SameLemmas.{same_more, same_whole}
use Rattle.explain.proofs.differences.same.is_same_log.Goals as goal

pub loop-i-preserved : goal.loop-i-preserved
loop-i-preserved c =
    let h : c.loop-i.i < length c.args.other.now = omega (arith, c.if-log-other.false, c.loop-i-test.true) in
    same_more reception_shape c.args.log.now c.args.other.now c.loop-i.i c.index-log-i.result c.index-other-i.result c.index-log-i.is c.index-other-i.is c.loop-i-test.true h
    (receptions_tied _ _ (sym c.is_same.ensures ∙ c.if-not-is_same.false)) c.loop-i.invariant

pub returns : goal.returns
returns c = λ t.
    let e : c.loop-i.i ≡ length c.args.log.now = omega (arith, c.loop-i-test.false, c.loop-i.auto.i-end) in
    let f : c.loop-i.i ≡ length c.args.other.now = omega (arith, e, c.if-log-other.false) in
    same_whole reception_shape c.args.log.now c.args.other.now c.loop-i.i e f c.loop-i.invariant
