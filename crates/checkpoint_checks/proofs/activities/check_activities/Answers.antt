use Rattle.std.proofs.Common.{◌∙◌, arith, sym}
use Rattle.std.proofs.lemmas.Result.{err_from_is_err_and}
use Rattle.checkpoint_checks.specs.Maps.{activities_of, homes_of}
use Rattle.checkpoint_checks.specs.Activities.{activity_fits}
use Rattle.checkpoint_checks.proofs.LoopLemmas.{all_fails, all_more}
use Rattle.checkpoint_checks.proofs.activities.check_activities.Goals as goal

pub loop-activity-preserved : goal.loop-activity-preserved
loop-activity-preserved c =
    all_more c.args.activities.now c.loop-activity.activity-index c.activity-item.result (omega arith) c.activity-item.is (activity_fits (activities_of c.args.world.now) (homes_of c.args.world.now)) c.in_ok-check_activity.ensures.fits
    ∙ c.loop-activity.invariant

pub returns-in_err-check_activity : goal.returns-in_err-check_activity
returns-in_err-check_activity c =
    let q = err_from_is_err_and c.from_residual.result c.from_residual.ensures.1 in
    rw (q.1, q.2)
    (record {
      fit = λ u. sym c.loop-activity.invariant
          ∙ all_fails c.args.activities.now c.loop-activity.activity-index c.activity-item.result (omega arith) c.activity-item.is (activity_fits (activities_of c.args.world.now) (homes_of c.args.world.now)) (c.in_err-check_activity.ensures.fits u);
    })
