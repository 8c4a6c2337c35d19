use Rattle.std.proofs.Common.{◌≡◌, ◌≤◌, ◌*◌, ◌^◌, map, take}
use Rattle.asp_model.specs.Shapes.{activity_shape}
use Rattle.run_report.specs.Summary.{requests_in}
use Rattle.run_report.proofs.summary.requests_in.Given as goal

abbrev pub invariant-loop-activity : goal.invariant-loop-activity
invariant-loop-activity l = record {
  sum : l.sum ≡ requests_in (map activity_shape (take l.activity-index l.activities));
  within : l.sum ≤ l.activity-index * 2 ^ 64;
}
