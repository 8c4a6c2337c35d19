use Rattle.std.proofs.Common.{refl}
use Rattle.asp_model.specs.Shapes.{lists_shape}
use Rattle.law_chases.proofs.FutureLemmas.{true_false}
use Rattle.outcome_search.specs.Ends.{run_logs}
use Rattle.outcome_search.proofs.GrownLemmas.{has_at, none_more}
use Rattle.outcome_search.proofs.search.is_within.Goals as goal

pub returns-then-begin_with : goal.returns-then-begin_with
returns-then-begin_with c =
    let x = c.end-item.result in
    record { within = (λ t. (run_logs x, has_at c.args.ends.now c.loop-end.end-index x x c.loop-end-test.true c.end-item.is, c.begin_with.ensures.begin.0 c.if-begin_with.true), λ w. refl) }

pub loop-end-preserved : goal.loop-end-preserved
loop-end-preserved c = none_more c.args.ends.now (lists_shape c.args.lists.now) c.loop-end.end-index c.end-item.result c.loop-end-test.true c.end-item.is c.loop-end.invariant
    (λ b. true_false c.begin_with.result (c.begin_with.ensures.begin.1 b) c.if-begin_with.false)
