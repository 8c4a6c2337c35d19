-- The reports of runs that went on from files.
use Rattle.std.specs.Prelude.{◌≡◌, ℕ, ◌+◌, ◌≤◌, List, Option}
use Rattle.asp_model.specs.declared.limits.TheConstants.{MOST_REDUCTIONS}
use Rattle.asp_model.specs.Names.{Text}
use Rattle.asp_model.specs.Term.{Tree}
use Rattle.asp_model.specs.Marked.{Marked, plain}
use Rattle.asp_model.specs.Configuration.{Configuration}
use Rattle.asp_model.specs.History.{EntryShape}
use Rattle.asp_model.specs.Replay.{lists_of, counts_of}
use Rattle.asp_model.specs.Outcome.{outcome_of, exit_status}
use Rattle.asp_model.specs.ReadReport as report
use Rattle.asp_model.specs.ReadReport.{read_report}
use Rattle.asp_check.specs.Faults.{IsChecked}
use Rattle.syntax_grammar.specs.Programs.{IsProgramText}
use Rattle.def_journals.specs.Journals.{RunShape}
use Rattle.def_paths.specs.Outcomes.{whole_outcome_of}
use Rattle.law_journals.specs.Budgets.{spent_in}
use Rattle.law_reports.specs.Depths.{report_to}
use Rattle.law_frozen.specs.Frozen.{FrozenShape, thawed}
use Rattle.checkpoint_text.specs.Reading.{Reads, read_checkpoint}
use Rattle.law_checkpoints.specs.Resumed.{replayed}
use Rattle.law_checkpoint_texts.specs.Files.{GoesOn}
use Rattle.law_program_files.specs.Programs.{printed, IsFileOf}

-- the report of a configuration at a depth
abbrev pub report_at : Option ℕ → Configuration → Text
report_at depth d = report_to depth (whole_outcome_of d)

-- the report, and the status, of a configuration are those of the replay of the whole program under the logs and counts
-- in that report
pub record ReportsReplay (program : Tree) (depth : Option ℕ) (d : Configuration) : Type 0 where
  pub read : read_report (report_at depth d) ≡ report.Reads (lists_of d) (counts_of d)
  pub same : report_at depth d ≡ report_at depth (replayed program d)
  pub status : exit_status (outcome_of d) ≡ exit_status (outcome_of (replayed program d))

-- so it is of each run that goes on from a file of the program, where no more than 10,000,000 reductions come together
abbrev pub FilesReportReplays : Type 0
FilesReportReplays = (bytes saved : Text) (program : Marked) (f : FrozenShape) (budget : ℕ) (entries : List EntryShape)
    (t : RunShape) (depth : Option ℕ)
    → IsProgramText bytes program → IsChecked program → IsFileOf program saved
    → read_checkpoint (printed program) saved ≡ Reads f → spent_in (thawed f) + budget ≤ MOST_REDUCTIONS
    → GoesOn f budget entries t → ReportsReplay (plain program) depth t.configuration
