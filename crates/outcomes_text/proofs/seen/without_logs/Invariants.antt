use Rattle.std.proofs.Common.{◌≡◌, take}
use Rattle.std.specs.Prelude.{string_bytes}
use Rattle.outcomes_text.specs.Outcomes.{seen_among}
use Rattle.outcomes_text.proofs.seen.without_logs.Given as goal

abbrev pub invariant-loop-line : goal.invariant-loop-line
invariant-loop-line l = string_bytes l.text ≡ seen_among (take l.line-index l.lines)
