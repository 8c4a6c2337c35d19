use Rattle.std.proofs.Common.{refl}
use Rattle.end_search.proofs.GrownLemmas.{none_more, not_both, within_at}
use Rattle.end_search.proofs.search.is_within.Goals as goal

pub returns-then-begins : goal.returns-then-begins
returns-then-begins g c =
    let x = c.end-item.result in
    record { within = (λ t. within_at g.S.Ends.begins c.args.ends.now c.loop-end.end-index x x c.args.offer.now c.loop-end-test.true c.end-item.is (c.begins.ensures.begins.0 c.if-begins.true), λ w. refl) }

pub loop-end-preserved : goal.loop-end-preserved
loop-end-preserved g c = none_more g.S.Ends.begins c.args.ends.now c.loop-end.end-index c.end-item.result c.args.offer.now c.loop-end-test.true c.end-item.is c.loop-end.invariant
    (λ b. not_both c.begins.result (c.begins.ensures.begins.1 b) c.if-begins.false)
