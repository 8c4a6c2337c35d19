-- Why a call tells nothing, with the status and the message of each refusal.
use Rattle.std.specs.Prelude.{ℕ, List, ◌++◌, Option, codes, is_some}
use Rattle.std.specs.Fmt.{decimal}
use Rattle.asp_model.specs.Names.{Name}
use Rattle.asp_model.specs.Report.{name_text}
use Rattle.explain.specs.declared.findings.Fault.{Fault}
use Rattle.explain_writing.specs.Writing.{status_told}
use Rattle.sender_log.specs.declared.error.LogError.{LogError}
use Rattle.sender_log.specs.declared.error.LogError.TheVariants as log
use Rattle.replay_one.specs.declared.replays.ReplayStop.{ReplayStop}
use Rattle.replay_one.specs.declared.replays.ReplayStop.TheVariants as replays
use Rattle.run_waits.specs.declared.cuts.CutStop.TheVariants as run
use Rattle.run_waits.specs.declared.cuts.reports.CutReportStop.{CutReportStop}
use Rattle.run_waits.specs.declared.cuts.reports.CutReportStop.TheVariants as cuts
use Rattle.asp_explain.specs.declared.stop.Which.{Which}
use Rattle.asp_explain.specs.declared.stop.Which.TheVariants.{First, Second}
use Rattle.asp_explain.specs.declared.stop.Stop.{Stop}
use Rattle.asp_explain.specs.declared.stop.Stop.TheVariants as stops

pub data Refusal : Type 0 where
  Usage : Refusal
  Unread : (name : List ℕ) → Refusal
  TooLong : Refusal
  -- one of the reports
  LongReport : (which : Which) → Refusal
  -- by its first line that cannot stand in its place
  NoReport : (which : Which) (line : ℕ) → Refusal
  Diverges : (which : Which) (activity : Name) → Refusal
  -- the run has no activity of this name
  NoActivity : (name : List ℕ) → Refusal
  -- there is no such activity in the report, or it has made fewer reductions
  NoCount : (activity : List ℕ) (count : ℕ) → Refusal
  LargePicture : Refusal
  NoMemory : Refusal

abbrev pub refusal_of : Stop → Refusal
refusal_of stops.Usage = Usage
refusal_of (stops.Unread name) = Unread name.now
refusal_of stops.TooLong = TooLong
refusal_of (stops.LongReport which) = LongReport which
refusal_of (stops.BadLine which line) = NoReport which line
refusal_of (stops.Diverged which activity) = Diverges which activity
refusal_of (stops.NoActivity name) = NoActivity name.now
refusal_of (stops.NoCount activity count) = NoCount activity.now count
refusal_of stops.LargePicture = LargePicture
refusal_of stops.Memory = NoMemory

abbrev pub log_stop : Which → LogError → Stop
log_stop which (log.BadLine line) = stops.BadLine which line
log_stop which log.Memory = stops.Memory

abbrev pub replay_stop : Which → ReplayStop → Stop
replay_stop which (replays.Diverged activity) = stops.Diverged which activity
replay_stop which replays.Memory = stops.Memory

abbrev pub cut_refusal : List ℕ → ℕ → CutReportStop → Refusal
cut_refusal activity k cuts.NoName = NoCount activity k
cut_refusal activity k (cuts.NoCut run.Beyond) = NoCount activity k
cut_refusal activity k (cuts.NoCut (run.Diverged m)) = Diverges First m
cut_refusal activity k (cuts.NoCut run.Memory) = NoMemory
cut_refusal activity k cuts.Memory = NoMemory

abbrev pub status_of_refusal : Refusal → ℕ
status_of_refusal Usage = 2
status_of_refusal (Unread name) = 6
status_of_refusal TooLong = 3
status_of_refusal (LongReport which) = 9
status_of_refusal (NoReport which line) = 9
status_of_refusal (Diverges which activity) = 9
status_of_refusal (NoActivity name) = 2
status_of_refusal (NoCount activity k) = 2
status_of_refusal LargePicture = 2
status_of_refusal NoMemory = 8

-- what messages call a report
abbrev pub report_text : Which → List ℕ
report_text First = codes "report"
report_text Second = codes "other"

-- why a report is refused

abbrev pub long_line : List ℕ → List ℕ
long_line report = codes "asp-explain: " ++ report ++ codes ": longer than 16777216 bytes\n"

abbrev pub bad_line : List ℕ → ℕ → List ℕ
bad_line report line = codes "asp-explain: " ++ report ++ codes ": line " ++ decimal line ++ codes "\n"

abbrev pub diverging_line : List ℕ → Name → List ℕ
diverging_line report activity =
    codes "asp-explain: " ++ report ++ codes ": " ++ name_text activity ++ codes " diverges\n"

abbrev pub message_of : Refusal → List ℕ
message_of Usage = codes "asp-explain: usage: asp-explain FILE [REPORT [OPTION ..]]\n"
message_of (Unread name) = codes "asp-explain: cannot read " ++ name ++ codes "\n"
message_of TooLong = codes "asp-explain: program: longer than 1048576 bytes\n"
message_of (LongReport which) = long_line (report_text which)
message_of (NoReport which line) = bad_line (report_text which) line
message_of (Diverges which activity) = diverging_line (report_text which) activity
message_of (NoActivity name) = codes "asp-explain: no activity " ++ name ++ codes "\n"
message_of (NoCount activity k) =
    codes "asp-explain: report: no " ++ decimal k ++ codes " reductions of " ++ activity ++ codes "\n"
message_of LargePicture = codes
    "asp-explain: a picture has at most 60 activities and 2000 events: ask for fewer by --events --from N --most N\n"
message_of NoMemory = codes "asp-explain: no memory\n"

abbrev pub write_message : List ℕ
write_message = codes "asp-explain: cannot write\n"

-- the status of what is told of a program
abbrev pub status_of : Option Fault → ℕ
status_of fault = status_told (is_some fault)
