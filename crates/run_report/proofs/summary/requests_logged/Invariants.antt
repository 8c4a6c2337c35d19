use Rattle.std.proofs.Common.{◌≡◌, ◌≤◌, length, map, take}
use Rattle.asp_model.specs.Shapes.{reception_shape}
use Rattle.law_steps.specs.Kept.{senders_among}
use Rattle.run_report.proofs.summary.requests_logged.Given as goal

abbrev pub invariant-loop-reception : goal.invariant-loop-reception
invariant-loop-reception l = record {
  count : l.count ≡ length (senders_among (map reception_shape (take l.reception-index l.log)));
  within : l.count ≤ l.reception-index;
}
