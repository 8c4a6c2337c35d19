use Rattle.std.proofs.Common.{◌≡◌, ◌++◌, take}
use Rattle.std.specs.List.{flat_map}
use Rattle.def_paths.specs.Outcomes.{WholeOutcome, end_lines}
use Rattle.run_ends.specs.Ends.{IsEndOf}
use Rattle.run_report.proofs.report.push_ends.Given as goal

abbrev pub invariant-loop-number : goal.invariant-loop-number
invariant-loop-number l = (o : WholeOutcome) → IsEndOf l.end o → l.lines.items ≡ l.fn.lines.items ++ flat_map (end_lines l.depth o.futures) (take l.number o.ends)
