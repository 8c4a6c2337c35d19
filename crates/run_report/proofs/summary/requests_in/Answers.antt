use Rattle.std.proofs.Common.{List, length, map, ap, arith}
use Rattle.asp_model.specs.declared.outcome.Reception.{Reception}
use Rattle.asp_model.specs.Shapes.{reception_shape}
use Rattle.law_steps.specs.Kept.{senders_among}
use Rattle.run_report.proofs.SummaryLemmas.{requests_in_more}
use Rattle.run_report.proofs.summary.requests_in.Goals as goal

pub loop-activity-preserved : goal.loop-activity-preserved
loop-activity-preserved c = record {
  sum = omega (arith, requests_in_more c.args.activities.now c.loop-activity.activity-index c.activity-item.result c.loop-activity-test.true c.activity-item.is, c.requests_logged.ensures, ap (λ (l : List Reception). length (senders_among (map reception_shape l))) c.deref.ensures.value);
  within = omega arith;
}
