-- Writing a report, and reading it.
use Rattle.std.specs.Prelude.{◌≡◌}
use Rattle.asp_model.specs.Outcome.{OutcomeShape, lists_in, counts_in}
use Rattle.asp_model.specs.WellFormed.{IsWellFormed}
use Rattle.asp_model.specs.Report.{report_of}
use Rattle.asp_model.specs.ReadReport.{read_report, Reads}

-- the report of a well-formed outcome gives its logs and counts
abbrev pub ReportsAreRead : Type 0
ReportsAreRead = (o : OutcomeShape) → IsWellFormed o → read_report (report_of o) ≡ Reads (lists_in o) (counts_in o)
