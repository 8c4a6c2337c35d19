use Rattle.std.proofs.Common.{◌≡◌, ◌≤◌, ◌+◌, ◌-◌, ◌^◌, ℕ, length}
use Rattle.journal_runs.specs.Runs.{grant_at}
use Rattle.journal_runs.proofs.lends.set_grant.Given as goal

abbrev pub invariant-loop-grants : goal.invariant-loop-grants
invariant-loop-grants l = ((j : ℕ) → grant_at l.grants.items j ≡ grant_at l.initial.grants.items j)
    × (length l.initial.grants.items ≤ 2 ^ 32 → length l.grants.items ≤ 2 ^ 32)

abbrev pub decreases-loop-grants : goal.decreases-loop-grants
decreases-loop-grants l = l.number + 1 - length l.grants.items
