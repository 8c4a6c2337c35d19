-- Entries that are checked against the definition of lawful journals.
use Rattle.std.specs.Prelude.{◌≡◌, ◌+◌, ℕ, List, Option, Some, None, slice_get, take}
use Rattle.asp_model.specs.History.{EntryShape, program_history}
use Rattle.asp_model.specs.Outcome.{outcome_of}
use Rattle.asp_model.specs.Shapes.{outcome_shape}
use Rattle.asp_model.specs.Term.{Tree}
use Rattle.def_journals.specs.Journals.{RunShape, entered, run_of}
use Rattle.def_paths.specs.Outcomes.{whole_outcome_of}
use Rattle.law_core.specs.Outcomes.{IsBudgeted, IsReplayedEnd}
use Rattle.law_traces.specs.Standings.{Ended, IsEndedJournal, Out, StandingShape, Unfinished, standing_of}
use Rattle.run_ends.specs.Ends.{IsEndOf}
use Rattle.run_ends.specs.declared.ends.RunEnd.{RunEnd}
use Rattle.journal_runs.specs.declared.runs.JournalRun.{JournalRun}
use Rattle.journal_runs.specs.Runs.{IsRunOf}
use Rattle.trace_check.specs.declared.error.TraceStop.{TraceStop}
use Rattle.trace_check.specs.declared.error.TraceStop.TheVariants as stop

-- the entries are a lawful journal of the program from the budget, whose run has ended, and this is its
-- end, which agrees with the replay of its own logs and counts, and keeps within the budget
pub record IsCheckedEnd (program : Tree) (budget : ℕ) (entries : List EntryShape) (r : RunEnd) : Type 0 where
  pub ended : IsEndedJournal program budget entries
  pub end : IsEndOf r (whole_outcome_of ended.run.configuration)
  pub outcome : outcome_shape r.outcome ≡ outcome_of ended.run.configuration
  pub replayed : IsReplayedEnd program ended.run.configuration
  pub budgeted : IsBudgeted budget (outcome_of ended.run.configuration)

-- those before this number, from 0, are a lawful journal, and no lawful journal goes on with the entry
-- that has it
pub record IsUnlawfulAt (program : Tree) (budget : ℕ) (entries : List EntryShape) (number : ℕ) : Type 0 where
  pub run : RunShape
  pub lawful : run_of (program_history program budget (take number entries)) ≡ Some run
  pub entry : EntryShape
  pub at : slice_get entries number ≡ Some entry
  pub refused : entered entry run ≡ None

-- somebody is out, or the run can go on
abbrev pub IsOpen : StandingShape → Type 0
IsOpen (Out k) = Unit {0}
IsOpen Unfinished = Unit {0}
IsOpen (Ended verdict) = ⊥

-- all are a lawful journal, whose run has not ended
pub record IsUnfinished (program : Tree) (budget : ℕ) (entries : List EntryShape) : Type 0 where
  pub run : RunShape
  pub lawful : run_of (program_history program budget entries) ≡ Some run
  pub stands : IsOpen (standing_of run)

-- an entry is told by its number from 1
abbrev pub IsStop : Tree → ℕ → List EntryShape → TraceStop → Type 0
IsStop program budget entries (stop.Unlawful k) =
    (number : ℕ) × (k ≡ number + 1) × IsUnlawfulAt program budget entries number
IsStop program budget entries stop.Unfinished = IsUnfinished program budget entries
IsStop program budget entries stop.Memory = Unit {0}

-- all were redone; or one cannot be, and is told by its number from 1
abbrev pub AreRedone : JournalRun → Tree → ℕ → List EntryShape → Option ℕ → Type 0
AreRedone x program budget entries None = (s : RunShape) × IsRunOf x program budget entries s
AreRedone x program budget entries (Some k) =
    (number : ℕ) × (k ≡ number + 1) × IsUnlawfulAt program budget entries number

-- a lawful journal whose run has ended is refused by want of memory alone
abbrev pub EndedAreAccepted : Type 0
EndedAreAccepted = (program : Tree) (budget : ℕ) (entries : List EntryShape) (x : TraceStop)
    → IsEndedJournal program budget entries → IsStop program budget entries x → x ≡ stop.Memory
