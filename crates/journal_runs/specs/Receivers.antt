-- Who receives a value, and where.
use Rattle.std.specs.Prelude.{◌≡◌, ◌<◌, ◌≤◌, ℕ, Option, Some, None, length}
use Rattle.asp_model.specs.Names.{Name}
use Rattle.asp_model.specs.Configuration.{Activity, Configuration}
use Rattle.def_journals.specs.Journals.{number_of}
use Rattle.law_steps.specs.Reached.{IsAt}
use Rattle.replay_population.specs.declared.population.Population.{Population}
use Rattle.replay_population.specs.Population.{IsPopulation}
use Rattle.journal_runs.specs.declared.runs.JournalRun.{JournalRun}
use Rattle.journal_runs.specs.Runs.{grant_at}

-- the number of a name under which nothing is granted; none if the name has no number, or something is
abbrev pub IsReceiver : JournalRun → Name → Option ℕ → Type 0
IsReceiver x n (Some k) = (number_of n x.population.roster ≡ Some k) × (grant_at x.grants.items k ≡ None)
IsReceiver x n None = (k : ℕ) → number_of n x.population.roster ≡ Some k → (grant_at x.grants.items k ≡ None → ⊥)

-- the place, if it is one of the store of the activity that has the number
abbrev pub IsPlaceOf : Population → ℕ → ℕ → Option ℕ → Type 0
IsPlaceOf p k place (Some i) = i ≡ place
IsPlaceOf p k place None = (c : Configuration) (n : Name) (a : Activity) → IsPopulation p c
    → number_of n p.roster ≡ Some k → IsAt c n a → length a.store ≤ place
