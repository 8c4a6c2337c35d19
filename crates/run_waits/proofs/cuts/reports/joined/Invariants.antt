use Rattle.std.proofs.Common.{◌≡◌, take}
use Rattle.std.specs.Prelude.{string_bytes}
use Rattle.asp_model.specs.Report.{text_of}
use Rattle.run_waits.proofs.cuts.reports.joined.Given as goal

abbrev pub invariant-loop-line : goal.invariant-loop-line
invariant-loop-line l = string_bytes l.text ≡ text_of (take l.line-index l.lines)
