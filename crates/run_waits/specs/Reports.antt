-- The text of a report that is cut back.
use Rattle.std.specs.Prelude.{◌≡◌, ℕ, List, Some, None}
use Rattle.asp_model.specs.Names.{Name}
use Rattle.asp_model.specs.Outcome.{OutcomeShape, counts_in, lists_in}
use Rattle.asp_model.specs.Replay.{CountsShape, replay}
use Rattle.asp_model.specs.ReportLines.{name_of}
use Rattle.asp_model.specs.Step.{ListsShape}
use Rattle.asp_model.specs.Term.{Tree}
use Rattle.def_paths.specs.Outcomes.{whole_outcome_of}
use Rattle.law_reports.specs.Depths.{report_to}
use Rattle.run_waits.specs.Cuts.{IsCutBack, IsCutStop}
use Rattle.run_waits.specs.declared.cuts.reports.CutReportStop.{CutReportStop}
use Rattle.run_waits.specs.declared.cuts.reports.CutReportStop.TheVariants as stop

-- the text is the report of the least cut at which the activity of this name has made so many reductions: that
-- of the replay under its logs and counts
pub record IsCutReport (program : Tree) (lists : ListsShape) (counts : CountsShape) (activity : List ℕ) (k : ℕ)
    (text : List ℕ) : Type 0 where
  pub name : Name
  pub named : name_of activity ≡ Some name
  pub outcome : OutcomeShape
  pub cut : IsCutBack program lists counts name k outcome
  pub is : text ≡ report_to None (whole_outcome_of (replay program (lists_in outcome) (counts_in outcome)))

-- no text is a name, or there is no such activity, or it has made fewer reductions; or it is why the run is not cut
abbrev pub IsReportStop : Tree → ListsShape → CountsShape → List ℕ → ℕ → CutReportStop → Type 0
IsReportStop program lists counts activity k stop.NoName = name_of activity ≡ None
IsReportStop program lists counts activity k (stop.NoCut s) =
    (n : Name) × (name_of activity ≡ Some n) × IsCutStop program lists counts n k s
IsReportStop program lists counts activity k stop.Memory = Unit {0}
