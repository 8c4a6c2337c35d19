use Rattle.std.proofs.Common.{◌≡◌, ◌++◌, take}
use Rattle.std.specs.Prelude.{string_bytes}
use Rattle.outcomes_text.specs.Told.{outcomes_from}
use Rattle.outcomes_text.proofs.text.add_outcomes.Given as goal

abbrev pub invariant-loop-number : goal.invariant-loop-number
invariant-loop-number l = string_bytes l.text ≡ string_bytes l.fn.text ++ outcomes_from 1 (take l.number l.tally)
