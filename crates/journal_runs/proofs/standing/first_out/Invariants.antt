use Rattle.std.proofs.Common.{◌≡◌, ◌<◌, ℕ, None}
use Rattle.journal_runs.specs.Runs.{grant_at}
use Rattle.journal_runs.proofs.standing.first_out.Given as goal

abbrev pub invariant-loop-number : goal.invariant-loop-number
invariant-loop-number l = (j : ℕ) → j < l.number → grant_at l.grants j ≡ None
