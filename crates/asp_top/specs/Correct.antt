-- The main theorem: `Reports` is the clause `report`, and `Answers` what is written for a task.
use Rattle.std.specs.Prelude.{◌≡◌, ◌≢◌, ◌⊎◌, ℕ, ◌≤◌, List, Option, Some, None, codes}
use Rattle.asp_model.specs.Marked.{Marked, plain}
use Rattle.asp_model.specs.Configuration.{Configuration}
use Rattle.asp_model.specs.History.{EntryShape}
use Rattle.asp_model.specs.Term.{Tree}
use Rattle.asp_model.specs.Step.{ListsShape}
use Rattle.asp_model.specs.Status.{Budget, verdict_of}
use Rattle.asp_model.specs.Replay.{CountsShape, Fits, replay, total}
use Rattle.asp_model.specs.Outcome.{outcome_of, exit_status}
use Rattle.asp_model.specs.Report.{with_feed}
use Rattle.asp_model.specs.ReadReport.{read_report, Reads}
use Rattle.def_paths.specs.Agree.{Agrees}
use Rattle.def_paths.specs.Outcomes.{whole_outcome_of}
use Rattle.law_reports.specs.Depths.{report_to}
use Rattle.determinacy.specs.Rulings.{Determinate, ruled}
use Rattle.run_report.specs.Rulings.{ruled_report}
use Rattle.run_report.specs.Summary.{summary_of}
use Rattle.law_traces.specs.Standings.{IsEndedJournal}
use Rattle.trace_text.specs.Traces as Trace
use Rattle.trace_text.specs.Traces.{read_trace, trace_of}
use Rattle.law_frozen.specs.Frozen.{frozen_of}
use Rattle.checkpoint_text.specs.Lines.{checkpoint_text}
use Rattle.checkpoint_runs.specs.Saved.{program_text}
use Rattle.command_line.specs.Task.{TaskShape, Runs, Checks, Rules, Journals, Saves, Resumes, SavesAgain}
use Rattle.command_line.specs.Task.{Replays, Compares, Traces, Makes, task_of}
use Rattle.asp_top.specs.Seen.{Call, Outside, IsUntouched, Takes}
use Rattle.asp_top.specs.Programs.{HasProgram, HasReplay, HasReport, HasTrace}
use Rattle.asp_top.specs.Rulings.{IsOnlyEnd}
use Rattle.asp_top.specs.Resumes.{IsNextCheckpoint, IsWithinBoth, ReportsBoth, ResumedOf, WasSaved, stop_of}
use Rattle.asp_top.specs.Comparisons.{Said, IsSo, status_said, text_said}

-- logs and counts that fit the program of a task
pub record ReplayOf (o : Outside) (task : TaskShape) : Type 0 where
  pub program : Marked
  pub given : HasProgram o task program
  pub lists : ListsShape
  pub counts : CountsShape
  pub fits : Fits (plain program) lists counts

-- the end of the program's replay under them
abbrev pub end_of : {o : Outside} {task : TaskShape} → ReplayOf o task → Configuration
end_of r = replay (plain r.program) r.lists r.counts

-- the report of a replay, with the states of its activities where a depth is given
abbrev pub report_at : Option ℕ → Configuration → List ℕ
report_at depth c = report_to depth (whole_outcome_of c)

-- the report without states, and the line of the ruling on the logs in it
abbrev pub ruled_at : Configuration → List ℕ
ruled_at c = ruled_report (whole_outcome_of c)

-- the text and the status are those of the replay
abbrev pub Tells : (Configuration → List ℕ) → Configuration → List ℕ → ℕ → Type 0
Tells told c text status = (text ≡ told c) × (status ≡ exit_status (outcome_of c))

-- no more reductions than the budget, and as many where the replay can go on
abbrev pub IsWithin : ℕ → CountsShape → Configuration → Type 0
IsWithin budget counts c = (total counts ≤ budget) × (verdict_of c ≡ Budget → total counts ≡ budget)

-- the entries are a lawful journal of the program, from the budget, whose run has ended; that agrees with this
-- configuration, and has its outcome and its report, at every depth
pub record IsJournalTo (program : Tree) (budget : ℕ) (entries : List EntryShape) (c : Configuration) : Type 0 where
  pub journal : IsEndedJournal program budget entries
  pub agrees : Agrees journal.run.configuration c
  pub outcome : outcome_of journal.run.configuration ≡ outcome_of c
  pub reports : (depth : Option ℕ) → report_at depth journal.run.configuration ≡ report_at depth c

-- the text is the trace of such a journal, and is read as that
pub record IsTrace (program : Tree) (budget : ℕ) (c : Configuration) (text : List ℕ) : Type 0 where
  pub entries : List EntryShape
  pub lawful : IsJournalTo program budget entries c
  pub written : text ≡ trace_of entries
  pub read : read_trace text ≡ Trace.Reads entries

-- the text is the checkpoint of the end of such a journal
pub record IsCheckpoint (program : Marked) (budget : ℕ) (c : Configuration) (text : List ℕ) : Type 0 where
  pub entries : List EntryShape
  pub lawful : IsJournalTo (plain program) budget entries c
  pub written : text ≡ checkpoint_text (program_text program)
      (frozen_of lawful.journal.run.names lawful.journal.run.configuration)

-- where the budget ran out such a checkpoint, and else the report
abbrev pub IsLeft : {o : Outside} {task : TaskShape} → ReplayOf o task → ℕ → List ℕ → Type 0
IsLeft r budget text =
    ((verdict_of (end_of r) ≡ Budget) × IsCheckpoint r.program budget (end_of r) text)
    ⊎ ((verdict_of (end_of r) ≢ Budget) × (text ≡ report_at None (end_of r)) × (read_report text ≡ Reads r.lists r.counts))

-- the report of where a run went on to from a checkpoint; if that was saved by a run of the program, it is the report
-- of both halves
abbrev pub IsLaterReport : {o : Outside} {task : TaskShape} {name : List ℕ} {budget : ℕ} → ResumedOf o task name budget
    → Option ℕ → List ℕ → ℕ → Type 0
IsLaterReport r depth text status = (text ≡ report_at depth (stop_of r))
    × (WasSaved r → ReportsBoth (plain r.program) r.frozen (stop_of r) depth text status)

-- where the budget ran out the next checkpoint, and else such a report
abbrev pub IsLeftLater : {o : Outside} {task : TaskShape} {name : List ℕ} {budget : ℕ} → ResumedOf o task name budget
    → List ℕ → ℕ → Type 0
IsLeftLater r text status =
    ((verdict_of (stop_of r) ≡ Budget) × IsNextCheckpoint r.program r.bytes r.run text)
    ⊎ ((verdict_of (stop_of r) ≢ Budget) × IsLaterReport r None text status)

-- the file of this name is the trace of such a journal
pub record IsTraced (o : Outside) (name : List ℕ) (program : Tree) (budget : ℕ) (c : Configuration) : Type 0 where
  pub entries : List EntryShape
  pub old : HasTrace o 1 name entries
  pub lawful : IsJournalTo program budget entries c

-- two reports that fit the program in a file, read one after the other
pub record ReplaysOf (o : Outside) (file name other : List ℕ) : Type 0 where
  pub program : Marked
  pub given : HasProgram o (Compares file name other) program
  pub first : HasReplay o 1 name program
  pub second : HasReplay o 2 other program

-- this is so of their replays
abbrev pub IsSaid : {o : Outside} {file name other : List ℕ} → ReplaysOf o file name other → Said → Type 0
IsSaid r said = IsSo said (plain r.program) r.first.lists r.first.counts r.second.lists r.second.counts

abbrev pub Answers : Outside → TaskShape → List ℕ → ℕ → Type 0
-- `asp FILE`: the report, at the depth asked for, of the replay under the logs and counts that it reads as
Answers o (Runs file settings depth) report status = (r : ReplayOf o (Runs file settings depth))
    × Tells (report_at depth) (end_of r) report status × (read_report report ≡ Reads r.lists r.counts)
    × IsWithin settings.budget r.counts (end_of r)
-- `asp FILE --determinate`: that report without states, and the ruling on it; where this is that there is no other, each
-- end of the program is this one
Answers o (Rules file settings) text status = (r : ReplayOf o (Rules file settings))
    × Tells ruled_at (end_of r) text status × (read_report text ≡ Reads r.lists r.counts)
    × IsWithin settings.budget r.counts (end_of r)
    × (ruled (outcome_of (end_of r)) ≡ Determinate → IsOnlyEnd (plain r.program) (end_of r))
-- `asp FILE --journal`: the trace of a lawful journal of the program, which has ended, and the status, of a replay with
-- which it agrees
Answers o (Journals file settings) text status = (r : ReplayOf o (Journals file settings))
    × (IsTrace (plain r.program) settings.budget (end_of r) text × (status ≡ exit_status (outcome_of (end_of r))))
    × IsWithin settings.budget r.counts (end_of r)
-- `asp FILE --save`: where the budget ran out the checkpoint of the end of a lawful journal, with which a replay agrees,
-- and else the report of the replay under the logs and counts that it reads as; the status is that of the replay
Answers o (Saves file settings) text status = (r : ReplayOf o (Saves file settings))
    × (IsLeft r settings.budget text × (status ≡ exit_status (outcome_of (end_of r))))
    × IsWithin settings.budget r.counts (end_of r)
-- `asp FILE --resume C`: the report, at the depth asked for, of where a lawful journal leads that goes on from the
-- checkpoint in the file C; the status is that of this end
Answers o (Resumes file name settings depth) report status =
    (r : ResumedOf o (Resumes file name settings depth) name settings.budget)
    × (IsLaterReport r depth report status × (status ≡ exit_status (outcome_of (stop_of r)))) × IsWithinBoth r
-- `asp FILE --resume C --save`: where the budget ran out the checkpoint of that end, and else its report without states
Answers o (SavesAgain file name settings) text status =
    (r : ResumedOf o (SavesAgain file name settings) name settings.budget)
    × (IsLeftLater r text status × (status ≡ exit_status (outcome_of (stop_of r)))) × IsWithinBoth r
-- `asp FILE --replay REPORT`: the report of the replay under those that the file REPORT reads as
Answers o (Replays file name depth) report status = (r : ReplayOf o (Replays file name depth))
    × Tells (report_at depth) (end_of r) report status × HasReport o 1 name r.lists r.counts
-- `asp FILE --replay REPORT --same OTHER`: what services could tell of the replays under those that both files read as
Answers o (Compares file name other) text status = (r : ReplaysOf o file name other)
    × (said : Said) × IsSaid r said × (text ≡ text_said said) × (status ≡ status_said said)
-- `asp FILE --trace T`: the report, at the depth asked for, of the journal in the file T, which is lawful and has ended
Answers o (Traces file name budget depth) report status = (r : ReplayOf o (Traces file name budget depth))
    × Tells (report_at depth) (end_of r) report status × (read_report report ≡ Reads r.lists r.counts)
    × IsWithin budget r.counts (end_of r) × IsTraced o name (plain r.program) budget (end_of r)
-- `asp --make N`: the summary of a replay of the generated program
Answers o (Makes pairs settings) summary status = (r : ReplayOf o (Makes pairs settings))
    × Tells (λ c. summary_of pairs (outcome_of c)) (end_of r) summary status × IsWithin settings.budget r.counts (end_of r)
-- `asp FILE --check`: the file is a checked program
Answers o (Checks file) text status = (program : Marked)
    × HasProgram o (Checks file) program × (text ≡ with_feed (codes "checked")) × (status ≡ 0)

abbrev pub IsReported : ℕ → Type 0
IsReported status = (status ≡ 0) ⊎ (status ≡ 1) ⊎ (status ≡ 4) ⊎ (status ≡ 5)

-- with such a status the text of the words' task was written, and no message
abbrev pub Reports : Call → ℕ → Type 0
Reports c status = (task : TaskShape) → task_of c.words ≡ Some task → IsReported status
    → (text : List ℕ) × Answers c.outside task text status × Takes c.out text × IsUntouched c.err
