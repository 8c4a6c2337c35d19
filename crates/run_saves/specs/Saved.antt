-- A run that is saved where its budget runs out.
use Rattle.std.specs.Prelude.{◌≡◌, ◌+◌, ℕ, Bool, true, false, List, Option, Some, map, string_bytes}
use Rattle.std.specs.List.{concat}
use Rattle.std.specs.declared.alloc.Global.{Global}
use Rattle.std.specs.declared.string.String.{String}
use Rattle.asp_model.specs.History.{EntryShape, FirstShape, HistoryShape}
use Rattle.asp_model.specs.Marked.{Marked, plain}
use Rattle.asp_model.specs.Outcome.{outcome_of}
use Rattle.asp_model.specs.Status.{Budget, VerdictShape, verdict_of}
use Rattle.def_journals.specs.Journals.{RunShape, run_of}
use Rattle.law_journals.specs.Budgets.{most_in, spent_in}
use Rattle.law_frozen.specs.Frozen.{frozen_of}
use Rattle.checkpoint_text.specs.Lines.{checkpoint_text}
use Rattle.checkpoint_runs.specs.Saved.{program_text}
use Rattle.asp_core.specs.EndOfRun.{IsEndOfHistory, IsEndOfRun}
use Rattle.law_core.specs.Outcomes.{IsBudgeted, IsReplayedEnd}
use Rattle.law_traces.specs.Standings.{Ended, IsEndedJournal, standing_of}
use Rattle.run_ends.specs.declared.ends.RunEnd.{RunEnd}
use Rattle.run_resumes.specs.Resumed.{IsResumedEnd, history_since}
use Rattle.run_saves.specs.declared.saved.Saved.{Saved}
use Rattle.run_saves.specs.declared.saved.Saved.TheVariants as saved

-- the budget ran out
abbrev pub is_budget : Option VerdictShape → Bool
is_budget (Some Budget) = true
is_budget v = false

-- the pieces are the checkpoint of the end of a lawful journal's run, whose budget ran out; it agrees with its replay
-- and keeps within the budget
pub record IsStoppedRun (program : Marked) (budget : ℕ) (pieces : List (String Global)) : Type 0 where
  pub journal : List EntryShape
  pub ended : IsEndedJournal (plain program) budget journal
  pub stopped : verdict_of ended.run.configuration ≡ Budget
  pub text : concat (map string_bytes pieces)
      ≡ checkpoint_text (program_text program) (frozen_of ended.run.names ended.run.configuration)
  pub replayed : IsReplayedEnd (plain program) ended.run.configuration
  pub budgeted : IsBudgeted budget (outcome_of ended.run.configuration)

-- the checkpoint where the budget ran out, and the end of a lawful journal's run where it did not
abbrev pub IsSavedRun : Marked → ℕ → Saved → Type 0
IsSavedRun program budget (saved.Stopped pieces) = IsStoppedRun program budget pieces.items
IsSavedRun program budget (saved.Ended end) =
    (e : IsEndOfRun (plain program) budget end) × (is_budget (Some (verdict_of e.run.configuration)) ≡ false)

-- Runs of any history, wherever that began

-- the pieces are the checkpoint of where the run of a history stands, whose budget ran out
pub record IsStoppedAt (h : HistoryShape) (program : Marked) (pieces : List (String Global)) : Type 0 where
  pub run : RunShape
  pub lawful : run_of h ≡ Some run
  pub ended : standing_of run ≡ Ended (verdict_of run.configuration)
  pub stopped : verdict_of run.configuration ≡ Budget
  pub text : concat (map string_bytes pieces)
      ≡ checkpoint_text (program_text program) (frozen_of run.names run.configuration)
  pub budgeted : IsBudgeted (most_in h) (outcome_of run.configuration)

-- the end of a history's run, whose budget did not run out
abbrev pub IsEndedAt : HistoryShape → RunEnd → Type 0
IsEndedAt h end = (e : IsEndOfHistory h end) × (is_budget (Some (verdict_of e.run.configuration)) ≡ false)

abbrev pub IsLeftAt : HistoryShape → Marked → Saved → Type 0
IsLeftAt h program (saved.Stopped pieces) = IsStoppedAt h program pieces.items
IsLeftAt h program (saved.Ended end) = IsEndedAt h end

-- Runs that went on

-- the pieces are the checkpoint of the end of a lawful journal's run that went on from this configuration with this
-- budget, which ran out
pub record IsStoppedSince (program : Marked) (x : FirstShape) (budget : ℕ) (pieces : List (String Global))
    : Type 0 where
  pub journal : List EntryShape
  pub run : RunShape
  pub lawful : run_of (history_since (plain program) x budget journal) ≡ Some run
  pub ended : standing_of run ≡ Ended (verdict_of run.configuration)
  pub stopped : verdict_of run.configuration ≡ Budget
  pub text : concat (map string_bytes pieces)
      ≡ checkpoint_text (program_text program) (frozen_of run.names run.configuration)
  pub budgeted : IsBudgeted (spent_in x.configuration + budget) (outcome_of run.configuration)

-- the checkpoint where the budget ran out, and the end of the run that went on where it did not
abbrev pub IsLeftSince : Marked → FirstShape → ℕ → Saved → Type 0
IsLeftSince program x budget (saved.Stopped pieces) = IsStoppedSince program x budget pieces.items
IsLeftSince program x budget (saved.Ended end) =
    (e : IsResumedEnd (plain program) x budget end)
    × (is_budget (Some (verdict_of e.run.configuration)) ≡ false)
