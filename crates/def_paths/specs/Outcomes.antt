-- The end of a run with the state of each activity, when two such ends agree, and the report at a depth.
use Rattle.std.specs.Prelude.{◌≡◌, ℕ, List, [], ◌∷◌, ◌++◌, Option, Some, None, map, codes}
use Rattle.std.specs.List.{flat_map}
use Rattle.asp_model.specs.Names.{Name, FutureShape}
use Rattle.asp_model.specs.Term.{blank}
use Rattle.asp_model.specs.Parcel.{ParcelShape}
use Rattle.asp_model.specs.Chase.{Chase, Values, chase}
use Rattle.asp_model.specs.Configuration.{Activity, Configuration}
use Rattle.asp_model.specs.Status.{VerdictShape, verdict_of}
use Rattle.asp_model.specs.Outcome.{ActivityReportShape, OutcomeShape, activity_report}
use Rattle.asp_model.specs.Report.{verdict_line, activity_lines}
use Rattle.def_paths.specs.Places.{side_by, AreReadAlike}
use Rattle.def_paths.specs.Agree.{Pairs, blank_service, ParcelsAgree}
use Rattle.def_paths.specs.Snapshots.{SnapshotShape, snapshot_of, roots_in}
use Rattle.def_paths.specs.StateLines.{state_lines}

-- an activity at the end: what a report says of it, and its state
pub record EndShape : Type 0 where
  pub report : ActivityReportShape
  pub snapshot : SnapshotShape

-- activities and futures in ascending order of names
pub record WholeOutcome : Type 0 where
  pub verdict : VerdictShape
  pub ends : List EndShape
  pub futures : Values

-- the end of an activity of a configuration
abbrev pub end_of : Configuration → Name × Activity → EndShape
end_of c x = record { report = activity_report c x; snapshot = snapshot_of x.1 }

-- the end of a run that leaves this configuration, with the states
abbrev pub whole_outcome_of : Configuration → WholeOutcome
whole_outcome_of c = record { verdict = verdict_of c; ends = map (end_of c) c.activities; futures = c.futures }

-- without the states
abbrev pub reported : WholeOutcome → OutcomeShape
reported o = record { verdict = o.verdict; activities = map (λ e. e.report) o.ends }

-- Agreement

-- each side reads futures by its own chases
pub record SnapshotsAgree (k l : FutureShape → Chase) (s t : SnapshotShape) : Type 0 where
  pub term : blank s.term ≡ blank t.term
  pub services : map blank_service s.services ≡ map blank_service t.services
  pub reading : AreReadAlike (side_by k s.store) (side_by l t.store) (roots_in s) (roots_in t)

-- equal but for the states, which agree
abbrev pub EndsAgree : (k l : FutureShape → Chase) → EndShape → EndShape → Type 0
EndsAgree k l e d = (e.report ≡ d.report) × SnapshotsAgree k l e.snapshot d.snapshot

-- one future, and values that agree
abbrev pub ValuesAgree : (k l : FutureShape → Chase) → FutureShape × ParcelShape → FutureShape × ParcelShape → Type 0
ValuesAgree k l x y = (x.0 ≡ y.0) × ParcelsAgree k l x.1 y.1

-- equal verdicts, and activity by activity and future by future what they hold agrees
pub record OutcomesAgree (o p : WholeOutcome) : Type 0 where
  pub verdict : o.verdict ≡ p.verdict
  pub ends : Pairs (EndsAgree (chase o.futures) (chase p.futures)) o.ends p.ends
  pub values : Pairs (ValuesAgree (chase o.futures) (chase p.futures)) o.futures p.futures

-- The report at a depth

-- the state lines of an activity, if a depth is asked for
abbrev pub lines_to : Option ℕ → Values → EndShape → List (List ℕ)
lines_to None values e = []
lines_to (Some d) values e = state_lines d values e.report.status e.snapshot

-- what a report shows of an activity: its own lines, then those of its state
abbrev pub end_lines : Option ℕ → Values → EndShape → List (List ℕ)
end_lines depth values e = activity_lines e.report ++ lines_to depth values e

-- the lines of a report, without their line feeds; with a depth the state of each activity follows its outputs
abbrev pub report_lines_to : Option ℕ → WholeOutcome → List (List ℕ)
report_lines_to depth o = codes "asp report 2" ∷ verdict_line o.verdict ∷ flat_map (end_lines depth o.futures) o.ends
