use Rattle.std.proofs.Common.{◌≡◌, ◌++◌, map, take}
use Rattle.asp_model.specs.Shapes.{activity_shape}
use Rattle.run_report.specs.Summary.{main_lines}
use Rattle.run_report.proofs.summary.push_main_outputs.Given as goal

abbrev pub invariant-loop-activity : goal.invariant-loop-activity
invariant-loop-activity l = l.lines.items ≡ l.fn.lines.items ++ main_lines (map activity_shape (take l.activity-index l.activities))
