-- What one run tells of all others.
use Rattle.std.specs.Prelude.{◌≡◌, ℕ, List, Option, Some}
use Rattle.asp_model.specs.Term.{Tree}
use Rattle.asp_model.specs.Configuration.{Configuration}
use Rattle.asp_model.specs.Status.{IsStuck, verdict_of}
use Rattle.asp_model.specs.History.{EntryShape, program_history}
use Rattle.def_journals.specs.Journals.{RunShape, run_of}
use Rattle.def_paths.specs.Outcomes.{whole_outcome_of}
use Rattle.law_reports.specs.Depths.{report_to}

-- wherever a lawful journal of the program leads, within whatever budget, and nobody can go on, the verdict is the one
-- here and so is the report, at every depth: so any two such ends have equal reports
abbrev pub IsOnlyEnd : Tree → Configuration → Type 0
IsOnlyEnd program c = (budget : ℕ) (journal : List EntryShape) (s : RunShape)
    → run_of (program_history program budget journal) ≡ Some s → IsStuck s.configuration
    → (verdict_of s.configuration ≡ verdict_of c)
    × ((depth : Option ℕ) → report_to depth (whole_outcome_of s.configuration) ≡ report_to depth (whole_outcome_of c))
