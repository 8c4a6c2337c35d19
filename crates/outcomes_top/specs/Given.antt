-- The ended runs that reports in files show, and why one of them is refused.
use Rattle.std.specs.Prelude.{◌≡◌, ◌⊎◌, ℕ, suc, List, [], ◌∷◌, ◌++◌, codes}
use Rattle.std.specs.Fmt.{decimal}
use Rattle.asp_model.specs.declared.limits.TheConstants.{MOST_REPORT_BYTES}
use Rattle.asp_model.specs.Names.{Text}
use Rattle.asp_model.specs.Term.{Tree}
use Rattle.asp_model.specs.Step.{ListsShape}
use Rattle.asp_model.specs.Status.{IsStuck}
use Rattle.asp_model.specs.Replay.{CountsShape, Fits, IsLeastDiverging, replay}
use Rattle.asp_model.specs.ReadReport.{BadLine, read_report}
use Rattle.asp_model.specs.Report.{name_text, with_feed}
use Rattle.asp_top.specs.Programs.{HasReport, IsFile}
use Rattle.asp_top.specs.Seen.{IsLong, Outside, ReadFails}
use Rattle.law_families.specs.Families.{IsEndedRun, RunLogs}
use Rattle.outcomes_top.specs.declared.halt.Fault.{Fault}
use Rattle.outcomes_top.specs.declared.halt.Fault.TheVariants as faults

-- the file of this name, which was asked for at this place, is the report of this ended run of the program
pub record ShowsEnd (o : Outside) (place : ℕ) (program : Tree) (name : Text) (x : RunLogs) : Type 0 where
  pub report : HasReport o place name x.0 x.1
  pub ended : IsEndedRun program x

-- the files of these names, which were asked for in turn, the first at this place, are the reports of these
abbrev pub ShowEnds : Outside → ℕ → Tree → List Text → List RunLogs → Type 0
ShowEnds o place program [] [] = Unit {0}
ShowEnds o place program (name ∷ names) (x ∷ ends) =
    ShowsEnd o place program name x × ShowEnds o (suc place) program names ends
ShowEnds o place program names ends = ⊥

-- where files are named for them, the ends are those whose reports they are; they were asked for behind the program's
abbrev pub AreShown : Outside → Tree → List Text → List RunLogs → Type 0
AreShown o program [] ends = Unit {0}
AreShown o program (name ∷ names) ends = ShowEnds o 1 program (name ∷ names) ends

-- why the replay under logs and counts is no ended run of the program: they do not fit it, and this is the least
-- activity that shows it, or it can go on
abbrev pub IsNoEnd : Tree → ListsShape → CountsShape → Fault → Type 0
IsNoEnd program lists counts (faults.Diverges activity) =
    IsLeastDiverging program lists counts activity × (Fits program lists counts → ⊥)
IsNoEnd program lists counts faults.GoesOn =
    Fits program lists counts × (IsStuck (replay program lists counts) → ⊥)
IsNoEnd program lists counts fault = ⊥

-- the file of this name, which was asked for at this place, has such a report
pub record HasNoEnd (o : Outside) (place : ℕ) (program : Tree) (name : Text) (fault : Fault) : Type 0 where
  pub lists : ListsShape
  pub counts : CountsShape
  pub report : HasReport o place name lists counts
  pub none : IsNoEnd program lists counts fault

-- why the file is refused
abbrev pub IsRefused : Outside → ℕ → Tree → Text → Fault → Type 0
IsRefused o place program name faults.Unread = ReadFails o place name
IsRefused o place program name faults.Long = IsLong o place name MOST_REPORT_BYTES
IsRefused o place program name (faults.Line number) =
    (bytes : Text) × IsFile o place name MOST_REPORT_BYTES bytes × (read_report bytes ≡ BadLine number)
IsRefused o place program name fault = HasNoEnd o place program name fault

-- one of these files is refused, and those before it are not
abbrev pub RefusedAmong : Outside → ℕ → Tree → List Text → Text → Fault → Type 0
RefusedAmong o place program [] name fault = ⊥
RefusedAmong o place program (n ∷ ns) name fault = ((n ≡ name) × IsRefused o place program name fault)
    ⊎ (((x : RunLogs) × ShowsEnd o place program n x) × RefusedAmong o (suc place) program ns name fault)

-- the messages

abbrev pub message_of_fault : Text → Fault → Text
message_of_fault name faults.Unread = with_feed (codes "asp-outcomes: cannot read " ++ name)
message_of_fault name faults.Long = with_feed (codes "asp-outcomes: " ++ name ++ codes ": longer than 16777216 bytes")
message_of_fault name (faults.Line number) =
    with_feed (codes "asp-outcomes: " ++ name ++ codes ": line " ++ decimal number)
message_of_fault name (faults.Diverges activity) =
    with_feed (codes "asp-outcomes: " ++ name ++ codes ": " ++ name_text activity ++ codes " diverges")
message_of_fault name faults.GoesOn = with_feed (codes "asp-outcomes: " ++ name ++ codes ": not ended")

abbrev pub status_of_fault : Fault → ℕ
status_of_fault faults.Unread = 6
status_of_fault fault = 9
