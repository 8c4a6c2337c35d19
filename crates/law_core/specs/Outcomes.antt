-- What the end of a run has in common with the replay under its own logs and counts.
use Rattle.std.specs.Prelude.{◌≡◌, ◌≤◌, ℕ, List, [], Option, Some}
use Rattle.asp_model.specs.Term.{Tree, locations}
use Rattle.asp_model.specs.Configuration.{Configuration}
use Rattle.asp_model.specs.Status.{VerdictShape, Budget}
use Rattle.asp_model.specs.Replay.{Fits, counts_of, lists_of, replay, total}
use Rattle.asp_model.specs.Outcome.{OutcomeShape, counts_in, lists_in, outcome_of}
use Rattle.asp_model.specs.History.{ChoiceShape, EntryShape, HistoryShape, program_history}
use Rattle.def_journals.specs.Edges.{HoldersShape}
use Rattle.def_journals.specs.Journals.{RunShape, first_in, run_of}
use Rattle.def_journals.specs.Owed.{verdict_told}
use Rattle.law_steps.specs.Sound.{IsSound}
use Rattle.law_journals.specs.Budgets.{most_in}
use Rattle.def_paths.specs.Agree.{Agrees}
use Rattle.def_paths.specs.Outcomes.{report_lines_to, whole_outcome_of}

-- the replay of the lists and counts that an outcome shows
abbrev pub replay_shown : Tree → OutcomeShape → Configuration
replay_shown program o = replay program (lists_in o) (counts_in o)

-- it fits, it agrees with this configuration, and its outcome is the same, whose report is too, at every depth
pub record IsReplayedEnd (program : Tree) (c : Configuration) : Type 0 where
  pub fits : Fits program (lists_in (outcome_of c)) (counts_in (outcome_of c))
  pub agrees : Agrees c (replay_shown program (outcome_of c))
  pub outcome : outcome_of (replay_shown program (outcome_of c)) ≡ outcome_of c
  pub reports : (depth : Option ℕ)
      → report_lines_to depth (whole_outcome_of (replay_shown program (outcome_of c)))
      ≡ report_lines_to depth (whole_outcome_of c)
  -- what it shows are its lists and counts
  pub lists : lists_in (outcome_of c) ≡ lists_of c
  pub counts : counts_in (outcome_of c) ≡ counts_of c

-- so for every lawful journal of a program
abbrev pub JournalsEnd : Type 0
JournalsEnd = (program : Tree) (budget : ℕ) (journal : List EntryShape) (s : RunShape)
    → locations program ≡ [] → run_of (program_history program budget journal) ≡ Some s
    → IsReplayedEnd program s.configuration

-- the counts keep within the budget, and where the budget ran out they sum to it
pub record IsBudgeted (budget : ℕ) (o : OutcomeShape) : Type 0 where
  pub within : total (counts_in o) ≤ budget
  pub spent : o.verdict ≡ Budget → total (counts_in o) ≡ budget

-- where a verdict is told, it is that of the outcome, and its counts are so for the budget and what was counted at
-- the beginning
abbrev pub VerdictsSpend : Type 0
VerdictsSpend = (h : HistoryShape) (s : RunShape) (holders : HoldersShape) (answers : List ChoiceShape)
    (v : VerdictShape) → IsSound (first_in h).configuration
    → run_of h ≡ Some s → verdict_told s holders answers ≡ Some v
    → ((outcome_of s.configuration).verdict ≡ v) × IsBudgeted (most_in h) (outcome_of s.configuration)
