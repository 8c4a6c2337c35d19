-- A report with the ruling on it behind it.
use Rattle.std.specs.Prelude.{◌≡◌, ℕ, List, [], ◌∷◌, ◌++◌, None, codes}
use Rattle.asp_model.specs.Report.{name_text, text_of}
use Rattle.asp_model.specs.Step.{ListsShape}
use Rattle.asp_model.specs.Replay.{CountsShape}
use Rattle.asp_model.specs.ReadReport.{read_report, Reads}
use Rattle.def_paths.specs.Outcomes.{WholeOutcome, report_lines_to, reported}
use Rattle.law_reports.specs.Depths.{report_to}
use Rattle.determinacy.specs.Rulings.{RulingShape, Determinate, Open, NotEnded, ruled}

-- that there is no other end, or which activity's log is the first that leaves it open; nothing where the budget ran
-- out
abbrev pub ruling_lines : RulingShape → List (List ℕ)
ruling_lines Determinate = codes ". determinate" ∷ []
ruling_lines (Open name) = (codes ". open " ++ name_text name) ∷ []
ruling_lines NotEnded = []

-- the lines of the report without states, and the line of the ruling on it
abbrev pub ruled_lines : WholeOutcome → List (List ℕ)
ruled_lines o = report_lines_to None o ++ ruling_lines (ruled (reported o))

abbrev pub ruled_report : WholeOutcome → List ℕ
ruled_report o = text_of (ruled_lines o)

-- it is read as the report is
abbrev pub RulingsArePassedOver : Type 0
RulingsArePassedOver = (o : WholeOutcome) (lists : ListsShape) (counts : CountsShape)
    → read_report (report_to None o) ≡ Reads lists counts → read_report (ruled_report o) ≡ Reads lists counts
