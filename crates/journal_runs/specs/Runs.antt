-- A run on one thread that has redone the entries of a journal.
use Rattle.std.specs.Prelude.{◌≡◌, ◌<◌, ◌^◌, ◌≤◌, ℕ, Bool, true, false, List, [], Option, Some, None, length, slice_get}
use Rattle.asp_model.specs.Term.{Tree, locations}
use Rattle.asp_model.specs.History.{EntryShape, program_history}
use Rattle.def_journals.specs.Journals.{RunShape, grant_of, run_of}
use Rattle.law_traces.specs.Standings as standings
use Rattle.law_traces.specs.Standings.{StandingShape}
use Rattle.replay_population.specs.Population.{IsPopulation}
use Rattle.journal_runs.specs.declared.runs.JournalRun.{JournalRun}
use Rattle.journal_runs.specs.declared.standing.Standing.{Standing}
use Rattle.journal_runs.specs.declared.standing.Standing.TheVariants as standing

-- the grant that stands under a number
abbrev pub grant_at : List (Option ℕ) → ℕ → Option ℕ
grant_at grants k = elim (slice_get grants k) [ None ↦ None | Some o ↦ o ]

-- the run has redone these entries, which are a lawful journal of the program from this budget, and
-- stands where they lead
pub record IsRunOf (x : JournalRun) (program : Tree) (budget : ℕ) (entries : List EntryShape) (s : RunShape)
    : Type 0 where
  pub bare : locations program ≡ []
  pub small : budget < 2 ^ 64
  pub lawful : run_of (program_history program budget entries) ≡ Some s
  pub population : IsPopulation x.population s.configuration
  pub names : x.population.roster ≡ s.names
  pub left : x.left ≡ s.left
  pub grants : (k : ℕ) → grant_at x.grants.items k ≡ grant_of k s.out
  pub few : length x.grants.items ≤ 2 ^ 32

-- it has redone some
abbrev pub IsSomeRun : JournalRun → Type 0
IsSomeRun x = (program : Tree) × (budget : ℕ) × (entries : List EntryShape) × (s : RunShape)
    × IsRunOf x program budget entries s

-- these entries were redone, or no lawful journal has them
abbrev pub IsRedone : JournalRun → Tree → ℕ → List EntryShape → Option RunShape → Bool → Type 0
IsRedone x program budget entries (Some t) true = IsRunOf x program budget entries t
IsRedone x program budget entries None false = Unit {0}
IsRedone x program budget entries o b = ⊥

-- where a run stands; how one ended, its end tells
abbrev pub IsStanding : StandingShape → Standing → Type 0
IsStanding (standings.Out k) (standing.Out j) = k ≡ j
IsStanding standings.Unfinished standing.Unfinished = Unit {0}
IsStanding (standings.Ended verdict) standing.Ended = Unit {0}
IsStanding x y = ⊥
