use Rattle.std.proofs.Common.{◌≡◌, ◌++◌, map, take}
use Rattle.asp_model.specs.Report.{output_line}
use Rattle.asp_model.specs.Shapes.{line_shape}
use Rattle.run_report.proofs.report.push_outputs.Given as goal

abbrev pub invariant-loop-output : goal.invariant-loop-output
invariant-loop-output l = l.lines.items ≡ l.fn.lines.items ++ map output_line (map line_shape (take l.output-index l.outputs))
