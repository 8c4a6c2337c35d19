-- Runs that go on from the checkpoint in a file.
use Rattle.std.specs.Prelude.{◌≡◌, ℕ, ◌+◌, List, Option}
use Rattle.asp_model.specs.declared.limits.TheConstants.{MOST_CHECKPOINT_BYTES}
use Rattle.asp_model.specs.Configuration.{Configuration}
use Rattle.asp_model.specs.History.{EntryShape}
use Rattle.asp_model.specs.Marked.{Marked}
use Rattle.asp_model.specs.Outcome.{exit_status, outcome_of}
use Rattle.asp_model.specs.ReadReport.{read_report, Reads}
use Rattle.asp_model.specs.Replay.{Fits, counts_of, lists_of}
use Rattle.asp_model.specs.Status.{verdict_of}
use Rattle.asp_model.specs.Term.{Tree}
use Rattle.def_journals.specs.Journals.{RunShape}
use Rattle.def_paths.specs.Outcomes.{whole_outcome_of}
use Rattle.law_core.specs.Outcomes.{IsBudgeted}
use Rattle.law_reports.specs.Depths.{report_to}
use Rattle.law_traces.specs.Standings.{Ended, standing_of}
use Rattle.law_frozen.specs.Frozen.{FrozenShape, frozen_of, thawed}
use Rattle.law_checkpoints.specs.Resumed.{AddsTo, replayed}
use Rattle.law_checkpoint_texts.specs.Files.{GoesOn}
use Rattle.law_program_files.specs.Programs.{IsFileOf}
use Rattle.checkpoint_text.specs.Lines.{checkpoint_text}
use Rattle.checkpoint_runs.specs.Saved.{program_text}
use Rattle.law_journals.specs.Budgets.{spent_in}
use Rattle.run_files.specs.Files.{HasRoom, IsReadAs}
use Rattle.command_line.specs.Task.{TaskShape}
use Rattle.asp_top.specs.Seen.{Outside}
use Rattle.asp_top.specs.Programs.{HasProgram, IsFile}

-- the task's program, the checkpoint of it in the file of this name, and a lawful journal that goes on from there with
-- this budget
pub record ResumedOf (o : Outside) (task : TaskShape) (name : List ℕ) (budget : ℕ) : Type 0 where
  pub program : Marked
  pub given : HasProgram o task program
  pub bytes : List ℕ
  pub file : IsFile o 1 name MOST_CHECKPOINT_BYTES bytes
  -- what the checkpoint keeps: sound, and within its limits
  pub frozen : FrozenShape
  pub read : IsReadAs program bytes frozen
  pub room : HasRoom frozen budget
  pub entries : List EntryShape
  pub run : RunShape
  pub lawful : GoesOn frozen budget entries run

-- where that journal leads
abbrev pub stop_of : {o : Outside} {task : TaskShape} {name : List ℕ} {budget : ℕ} → ResumedOf o task name budget
    → Configuration
stop_of r = r.run.configuration

-- no more reductions than were counted before and the budget, and as many where it can go on
abbrev pub IsWithinBoth : {o : Outside} {task : TaskShape} {name : List ℕ} {budget : ℕ} → ResumedOf o task name budget
    → Type 0
IsWithinBoth {budget = budget} r = IsBudgeted (spent_in (thawed r.frozen) + budget) (outcome_of (stop_of r))

-- the bytes are the checkpoint of where a run of the program stood, which went on from others or from none
abbrev pub WasSaved : {o : Outside} {task : TaskShape} {name : List ℕ} {budget : ℕ} → ResumedOf o task name budget
    → Type 0
WasSaved r = IsFileOf r.program r.bytes

-- Both halves report as one run: this is the report, and the status, of a replay of the whole program, and goes on from
-- where the checkpoint was saved.
pub record ReportsBoth (program : Tree) (f : FrozenShape) (c : Configuration) (depth : Option ℕ)
    (report : List ℕ) (status : ℕ) : Type 0 where
  -- it reads as these logs and counts, which fit the program
  pub read : read_report report ≡ Reads (lists_of c) (counts_of c)
  pub fits : Fits program (lists_of c) (counts_of c)
  -- under them the program is replayed
  pub same : report ≡ report_to depth (whole_outcome_of (replayed program c))
  pub answered : status ≡ exit_status (outcome_of (replayed program c))
  -- each log begins as it does in the checkpoint, and no count is below the one there
  pub adds : AddsTo (thawed f) c

-- the text is the checkpoint of where a run ended that went on from these bytes; if those were saved by a run of the
-- program, so is this
pub record IsNextCheckpoint (program : Marked) (bytes : List ℕ) (run : RunShape) (text : List ℕ) : Type 0 where
  pub ended : standing_of run ≡ Ended (verdict_of run.configuration)
  pub written : text ≡ checkpoint_text (program_text program) (frozen_of run.names run.configuration)
  pub again : IsFileOf program bytes → IsFileOf program text
