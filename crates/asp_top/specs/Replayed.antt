-- What is read of reports and comes of their replays, and why there is nothing to write: for private functions alone.
use Rattle.std.specs.Prelude.{◌≡◌, ◌⊎◌, ℕ, List}
use Rattle.asp_model.specs.declared.limits.TheConstants.{MOST_REPORT_BYTES}
use Rattle.asp_model.specs.declared.outcome.Lists.{Lists}
use Rattle.asp_model.specs.declared.outcome.Counts.{Counts}
use Rattle.asp_model.specs.Names.{Name}
use Rattle.asp_model.specs.Marked.{Marked, plain}
use Rattle.asp_model.specs.Shapes.{lists_shape, counts_shape, outcome_shape}
use Rattle.asp_model.specs.Step.{ListsShape}
use Rattle.asp_model.specs.Replay.{CountsShape, Fits, IsLeastDiverging, replay}
use Rattle.asp_model.specs.Outcome.{outcome_of}
use Rattle.asp_model.specs.ReadReport.{read_report, BadLine}
use Rattle.def_paths.specs.Outcomes.{whole_outcome_of}
use Rattle.replay_one.specs.Listed.{AreReplayable}
use Rattle.replay_services.specs.declared.compares.Comparison.{Comparison}
use Rattle.replay_services.specs.declared.compares.Comparison.TheVariants as comparison
use Rattle.replay_services.specs.declared.replays.ServicesRun.{ServicesRun}
use Rattle.replay_services.specs.Compares.{IsServicesRun}
use Rattle.run_ends.specs.declared.ends.RunEnd.{RunEnd}
use Rattle.run_ends.specs.Ends.{IsEndOf}
use Rattle.asp_top.specs.declared.prepare.Prepared.{Prepared}
use Rattle.asp_top.specs.declared.stop.Stop.{Stop}
use Rattle.asp_top.specs.declared.stop.Which.{Which}
use Rattle.asp_top.specs.declared.stop.Which.TheVariants.{First, Second}
use Rattle.asp_top.specs.Seen.{Outside, ReadFails, IsLong}
use Rattle.asp_top.specs.Programs.{IsFile, HasReplay, HasReport}
use Rattle.asp_top.specs.Refusals.{Refusal, Unread, LongReport, NoReport, Diverges, NoMemory}
use Rattle.asp_top.specs.Comparisons.{Said, Same, Differ, Unended, IsSo, status_said, text_said}
use Rattle.asp_top.specs.Ready.{text_in}
use Rattle.asp_top.specs.Stops.{refusal_of}

-- the file is a report with these logs and counts, and they can be replayed
pub record IsReplayable (o : Outside) (name : List ℕ) (log : Lists × Counts) : Type 0 where
  pub old : HasReport o 0 name (lists_shape log.0) (counts_shape log.1)
  pub replayable : AreReplayable (lists_shape log.0) (counts_shape log.1)

-- the cause of a stop at the file of one of the reports, which is asked for at this place
abbrev pub RefusedInReport : Outside → ℕ → Which → List ℕ → Refusal → Type 0
RefusedInReport o place which report (Unread name) = (report ≡ name) × ReadFails o place name
RefusedInReport o place which report (LongReport one) = (one ≡ which) × IsLong o place report MOST_REPORT_BYTES
RefusedInReport o place which report (NoReport one line) = (one ≡ which)
    × (bytes : List ℕ) × IsFile o place report MOST_REPORT_BYTES bytes × (read_report bytes ≡ BadLine line)
RefusedInReport o place which report NoMemory = Unit {0}
RefusedInReport o place which report r = ⊥

abbrev pub StopsInReport : Outside → Which → List ℕ → Stop → Type 0
StopsInReport o which report s = RefusedInReport o 0 which report (refusal_of s)

-- the report does not fit the program, and this is the least activity that shows it
pub record IsDiverging (o : Outside) (place : ℕ) (report : List ℕ) (program : Marked) (activity : Name) : Type 0 where
  pub lists : ListsShape
  pub counts : CountsShape
  pub old : HasReport o place report lists counts
  pub least : IsLeastDiverging (plain program) lists counts activity
  pub unfit : Fits (plain program) lists counts → ⊥

-- the cause of a stop at the file of a report and its replay
abbrev pub RefusedInReplay : Outside → ℕ → Which → List ℕ → Marked → Refusal → Type 0
RefusedInReplay o place which report program (Diverges one activity) =
    (one ≡ which) × IsDiverging o place report program activity
RefusedInReplay o place which report program r = RefusedInReport o place which report r

abbrev pub StopsInReplay : Outside → Which → List ℕ → Marked → Stop → Type 0
StopsInReplay o which report program s = RefusedInReplay o 0 which report program (refusal_of s)

-- the end of the replay of the report in the file of this name
pub record IsEndIn (o : Outside) (report : List ℕ) (program : Marked) (e : RunEnd) : Type 0 where
  pub fitting : HasReplay o 0 report program
  pub outcome : outcome_shape e.outcome ≡ outcome_of (replay (plain program) fitting.lists fitting.counts)
  pub end : IsEndOf e (whole_outcome_of (replay (plain program) fitting.lists fitting.counts))

-- and that replay with what its services could take
pub record IsServicesIn (o : Outside) (report : List ℕ) (program : Marked) (r : ServicesRun) : Type 0 where
  pub fitting : HasReplay o 0 report program
  pub run : IsServicesRun r (plain program) fitting.lists fitting.counts

-- what a comparison says
abbrev pub said_of : Comparison → Said
said_of comparison.Same = Same
said_of (comparison.Differ n) = Differ n.now
said_of comparison.Unended = Unended

-- what is said of the replays of two reports, which are asked for one after the other
pub record IsComparedIn (o : Outside) (report other : List ℕ) (program : Marked) (p : Prepared) : Type 0 where
  pub first : HasReplay o 0 report program
  pub second : HasReplay o 1 other program
  pub said : Said
  pub so : IsSo said (plain program) first.lists first.counts second.lists second.counts
  pub text : text_in p ≡ text_said said
  pub status : p.status ≡ status_said said

-- the cause of a stop at two reports: at the first, or at the second where the first fits
abbrev pub RefusedInBoth : Outside → List ℕ → List ℕ → Marked → Refusal → Type 0
RefusedInBoth o report other program r = RefusedInReplay o 0 First report program r
    ⊎ (HasReplay o 0 report program × RefusedInReplay o 1 Second other program r)

abbrev pub StopsInBoth : Outside → List ℕ → List ℕ → Marked → Stop → Type 0
StopsInBoth o report other program s = RefusedInBoth o report other program (refusal_of s)
