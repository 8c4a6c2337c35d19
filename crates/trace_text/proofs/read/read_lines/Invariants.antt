use Rattle.std.proofs.Common.{◌≡◌, ◌+◌, map, drop}
use Rattle.trace_text.specs.Traces.{before_lines, read_on}
use Rattle.trace_text.specs.Progress.{progress_shape}
use Rattle.trace_text.proofs.read.read_lines.Given as goal

abbrev pub invariant-loop-i : goal.invariant-loop-i
invariant-loop-i l = read_on before_lines 1 (map (λ x. x.now) l.lines) ≡ read_on (progress_shape l.progress) (l.i + 1) (map (λ x. x.now) (drop l.i l.lines))
