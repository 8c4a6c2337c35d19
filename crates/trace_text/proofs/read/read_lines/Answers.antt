use Rattle.std.proofs.Common.{◌∙◌, ◌+◌, map, arith, rules}
use Rattle.trace_text.specs.Traces.{before_lines, read_on}
use Rattle.trace_text.specs.Progress.{TellsOf, progress_shape}
use Rattle.trace_text.proofs.LineLemmas.{tells_refused}
use Rattle.trace_text.proofs.LineLemmas.{line_read, line_refused}
use Rattle.trace_text.proofs.read.read_lines.Goals as goal

pub returns-in_err-advance-clause-bad_line : goal.returns-in_err-advance-clause-bad_line
returns-in_err-advance-clause-bad_line c =
    let lines = c.args.lines.now in
    let p = c.loop-i.progress in
    let told : TellsOf (read_on before_lines 1 (map (λ l. l.now) lines)) c.in_err-advance.field-0.0 =
    tells_refused _ (c.loop-i.i + 1) _ _ (λ none. c.loop-i.invariant ∙ line_refused (progress_shape p) (c.loop-i.i + 1) c.loop-i.i lines _ (omega (arith, c.loop-i-test.true)) none) c.in_err-advance.ensures.bad_line in
    search rules

pub loop-i-preserved : goal.loop-i-preserved
loop-i-preserved c =
    let i = c.loop-i.i in
    c.loop-i.invariant
    ∙ line_read (progress_shape c.loop-i.progress) (progress_shape c.advance.new.progress) (i + 1) (i + 1 + 1) i c.args.lines.now _ (omega arith) (omega (arith, c.loop-i-test.true)) c.in_ok-advance.ensures.ok
