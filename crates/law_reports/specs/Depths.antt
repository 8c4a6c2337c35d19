-- Reports that show states, and reading them.
use Rattle.std.specs.Prelude.{◌≡◌, ◌&&◌, ℕ, Bool, true, List, Option}
use Rattle.std.specs.List.{list_all}
use Rattle.asp_model.specs.Store.{CellShape, Object}
use Rattle.asp_model.specs.Outcome.{lists_in, counts_in}
use Rattle.asp_model.specs.WellFormed.{is_printable, IsWellFormed}
use Rattle.asp_model.specs.Report.{text_of}
use Rattle.asp_model.specs.ReadReport.{read_report, Reads}
use Rattle.def_paths.specs.Outcomes.{WholeOutcome, reported, report_lines_to}

-- the report at a depth as text; with none it shows no state
abbrev pub report_to : Option ℕ → WholeOutcome → List ℕ
report_to depth o = text_of (report_lines_to depth o)

-- the labels of an object's fields and methods hold bytes 0x20 to 0x7E alone
abbrev pub has_printable_labels : CellShape → Bool
has_printable_labels (Object fields methods) = list_all (λ x. list_all is_printable x.label) fields && list_all (λ m. list_all is_printable m.head.label) methods
has_printable_labels c = true

-- so do those of all objects in the stores and in the values
pub record HasPrintableLabels (o : WholeOutcome) : Type 0 where
  pub stores : list_all (λ e. list_all has_printable_labels e.snapshot.store) o.ends ≡ true
  pub values : list_all (λ x. list_all has_printable_labels x.1.cells) o.futures ≡ true

-- the report of such a well-formed outcome gives its logs and counts, at every depth
abbrev pub ReportsToDepthsAreRead : Type 0
ReportsToDepthsAreRead = (depth : Option ℕ) (o : WholeOutcome) → IsWellFormed (reported o) → HasPrintableLabels o
    → read_report (report_to depth o) ≡ Reads (lists_in (reported o)) (counts_in (reported o))
