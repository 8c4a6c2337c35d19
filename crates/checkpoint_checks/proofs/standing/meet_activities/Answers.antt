use Rattle.std.proofs.Common.{◌∙◌, arith, sym}
use Rattle.std.proofs.lemmas.Result.{err_from_is_err_and}
use Rattle.checkpoint_parts.specs.Shapes.{activity_shape}
use Rattle.checkpoint_checks.specs.Maps.{has_in}
use Rattle.checkpoint_checks.proofs.LoopLemmas.{all_fresh, all_met, none_fresh}
use Rattle.checkpoint_checks.proofs.standing.meet_activities.Goals as goal

pub loop-activity-preserved : goal.loop-activity-preserved
loop-activity-preserved c =
    let set = has_in c.loop-activity.met in
    let next = has_in c.meet_activity.new.met in
    let i = c.loop-activity.activity-index in
    let x = c.activity-item.result in (
      all_met c.args.activities.now i x (omega arith) c.activity-item.is activity_shape set next c.in_ok-meet_activity.ensures.met ∙ c.loop-activity.invariant.0,
      all_fresh c.args.activities.now i x (omega arith) c.activity-item.is activity_shape set next c.in_ok-meet_activity.ensures.met c.in_ok-meet_activity.ensures.fresh
          ∙ c.loop-activity.invariant.1,
    )

pub returns-in_err-meet_activity-clause-fresh : goal.returns-in_err-meet_activity-clause-fresh
returns-in_err-meet_activity-clause-fresh c =
    let q = err_from_is_err_and c.from_residual.result c.from_residual.ensures.1 in
    rw (q.1, q.2)
    (λ u. sym c.loop-activity.invariant.1
    ∙ none_fresh c.args.activities.now c.loop-activity.activity-index c.activity-item.result (omega arith) c.activity-item.is activity_shape (has_in c.loop-activity.met) (c.in_err-meet_activity.ensures.fresh u))
