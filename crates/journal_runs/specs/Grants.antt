-- Grants by numbers.
use Rattle.std.specs.Prelude.{◌≡◌, ◌≢◌, ◌⊎◌, ◌<◌, ◌≤◌, ◌^◌, ℕ, Bool, true, false}
use Rattle.std.specs.Prelude.{List, Option, Some, None, is_some, length, slice_get}
use Rattle.asp_model.specs.Names.{Name}
use Rattle.journal_runs.specs.declared.runs.JournalRun.{JournalRun}
use Rattle.journal_runs.specs.Runs.{grant_at}

-- this stands under a number, and the others stay
pub record IsGranted (old : List (Option ℕ)) (k : ℕ) (o : Option ℕ) (new : List (Option ℕ)) : Type 0 where
  pub here : grant_at new k ≡ o
  pub others : (j : ℕ) → j ≢ k → grant_at new j ≡ grant_at old j
  pub few : length old ≤ 2 ^ 32 → length new ≤ 2 ^ 32

-- an activity has this number, and is in; or nobody has it, or who has it is out
abbrev pub IsFree : JournalRun → ℕ → Bool → Type 0
IsFree x k true = (n : Name) × (slice_get x.population.roster k ≡ Some n) × (grant_at x.grants.items k ≡ None)
IsFree x k false = (slice_get x.population.roster k ≡ None) ⊎ ((g : ℕ) × (grant_at x.grants.items k ≡ Some g))

-- the least number under which something is granted, or nothing is granted
abbrev pub IsLeastOut : List (Option ℕ) → Option ℕ → Type 0
IsLeastOut grants (Some k) = (is_some (grant_at grants k) ≡ true) × ((j : ℕ) → j < k → grant_at grants j ≡ None)
IsLeastOut grants None = (j : ℕ) → grant_at grants j ≡ None
