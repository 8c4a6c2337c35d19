-- What a call is given to tell of: the program in a file, and a report of it.
use Rattle.std.specs.Prelude.{◌≡◌, ◌⊎◌, ◌<◌, ℕ, List, [], ◌∷◌, ◌++◌, Option, Some, None, Ok, Err}
use Rattle.asp_model.specs.declared.limits.TheConstants.{MOST_PROGRAM_BYTES, MOST_REPORT_BYTES}
use Rattle.asp_model.specs.declared.outcome.Counts.{Counts}
use Rattle.asp_model.specs.declared.outcome.Lists.{Lists}
use Rattle.asp_model.specs.Marked.{Marked}
use Rattle.asp_model.specs.Names.{Name}
use Rattle.asp_model.specs.ReportLines.{name_of}
use Rattle.run_waits.specs.Cuts.{IsBeyond}
use Rattle.asp_model.specs.ReadReport.{BadLine, Reads, read_report}
use Rattle.asp_model.specs.Replay.{CountsShape, Fits, IsLeastDiverging}
use Rattle.asp_model.specs.Shapes.{counts_shape, lists_shape, marked_of}
use Rattle.asp_model.specs.Step.{ListsShape}
use Rattle.asp_model.specs.Term.{Tree}
use Rattle.asp_check.specs.declared.checked.Checked.{Checked}
use Rattle.asp_check.specs.Faults.{IsChecked}
use Rattle.asp_edge.specs.Told.{Asks}
use Rattle.asp_edge.specs.declared.edge.ReadError.TheVariants as read
use Rattle.syntax_grammar.specs.Programs.{IsProgramText}
use Rattle.explain.specs.declared.findings.Fault.{Fault}
use Rattle.explain.specs.Told.{IsTold}
use Rattle.replay_one.specs.Listed.{AreReplayable}
use Rattle.asp_explain.specs.declared.loading.Given.{Given}
use Rattle.asp_explain.specs.declared.loading.Loaded.{Loaded}
use Rattle.asp_explain.specs.declared.loading.Loaded.TheVariants as loaded
use Rattle.asp_explain.specs.declared.stop.Which.{Which}
use Rattle.asp_explain.specs.declared.stop.Which.TheVariants.{First}
use Rattle.asp_explain.specs.Refusals.{Refusal, Unread, TooLong, LongReport, NoReport, Diverges, NoCount, NoMemory, status_of}
use Rattle.asp_explain.specs.Seen.{Asked, Fails, Outside}

-- The program

-- the checked program that the code holds
abbrev pub program_in : Checked → Marked
program_in c = marked_of c.program.root

-- the bytes are this program and no other, and it is checked
pub record IsProgramOf (bytes : List ℕ) (program : Marked) : Type 0 where
  pub is_read : IsProgramText bytes program
  pub only : (other : Marked) → IsProgramText bytes other → program ≡ other
  pub checked : IsChecked program

-- the bytes are no checked program
abbrev pub HasFault : List ℕ → Type 0
HasFault bytes = (program : Marked) → IsProgramText bytes program → IsChecked program → ⊥

-- the text tells the first fault of the bytes of a file, or that they have none, and the status says which
pub record IsToldWith (file bytes text : List ℕ) (status : ℕ) : Type 0 where
  pub fault : Option Fault
  pub told : IsTold file bytes fault text
  pub status_is : status ≡ status_of fault

-- it tells those of the bytes that the source handed out under the file's name
pub record TellsFile (o : Outside) (file text : List ℕ) (status : ℕ) : Type 0 where
  pub bytes : List ℕ
  pub asked : Asked o ((file, Ok bytes) ∷ [])
  pub told : IsToldWith file bytes text status

-- why nothing is told of the file of a program
abbrev pub StopsAtFile : Outside → List ℕ → Refusal → Type 0
StopsAtFile o file (Unread name) = (name ≡ file) × Asked o ((file, Err read.Failed) ∷ []) × Fails o
StopsAtFile o file TooLong = (taken : ℕ) × Asked o ((file, Err (read.TooLong taken)) ∷ []) × (MOST_PROGRAM_BYTES < taken)
StopsAtFile o file NoMemory = Unit {0}
StopsAtFile o file r = ⊥

-- A report

-- the bytes of a file, which alone was asked for, are a report with these logs and counts, which can be replayed
pub record IsReportIn (o : Outside) (name : List ℕ) (log : Lists × Counts) : Type 0 where
  pub bytes : List ℕ
  pub asked : Asked o ((name, Ok bytes) ∷ [])
  pub reads : read_report bytes ≡ Reads (lists_shape log.0) (counts_shape log.1)
  pub replayable : AreReplayable (lists_shape log.0) (counts_shape log.1)

-- why no report is read, which was asked for behind other files
abbrev pub StopsAtReport : Outside → Asks → Which → List ℕ → Refusal → Type 0
StopsAtReport o asks which report (Unread name) =
    (name ≡ report) × Asked o (asks ++ (report, Err read.Failed) ∷ []) × Fails o
StopsAtReport o asks which report (LongReport one) =
    (one ≡ which) × (taken : ℕ) × Asked o (asks ++ (report, Err (read.TooLong taken)) ∷ []) × (MOST_REPORT_BYTES < taken)
StopsAtReport o asks which report (NoReport one line) = (one ≡ which)
    × (bytes : List ℕ) × Asked o (asks ++ (report, Ok bytes) ∷ []) × (read_report bytes ≡ BadLine line)
StopsAtReport o asks which report NoMemory = Unit {0}
StopsAtReport o asks which report r = ⊥

-- why its replay stops
abbrev pub StopsReplay : Tree → ListsShape → CountsShape → Which → Refusal → Type 0
StopsReplay program lists counts which (Diverges one activity) = (one ≡ which)
    × IsLeastDiverging program lists counts activity × (Fits program lists counts → ⊥)
StopsReplay program lists counts which NoMemory = Unit {0}
StopsReplay program lists counts which r = ⊥

-- why its report is not cut back
abbrev pub StopsCut : Tree → ListsShape → CountsShape → List ℕ → ℕ → Refusal → Type 0
StopsCut program lists counts activity k (Diverges one m) = (one ≡ First)
    × IsLeastDiverging program lists counts m × (Fits program lists counts → ⊥)
StopsCut program lists counts activity k (NoCount name count) = (name ≡ activity) × (count ≡ k)
    × ((name_of activity ≡ None) ⊎ ((n : Name) × (name_of activity ≡ Some n) × IsBeyond lists counts n k))
StopsCut program lists counts activity k NoMemory = Unit {0}
StopsCut program lists counts activity k r = ⊥

-- A program and a report

-- the source was asked for both, in turn, and the first is this program, and the second reads as these
pub record AreGiven (o : Outside) (file report : List ℕ) (program : Marked) (lists : ListsShape) (counts : CountsShape)
    : Type 0 where
  pub bytes : List ℕ
  pub is : IsProgramOf bytes program
  pub shown : List ℕ
  pub reads : read_report shown ≡ Reads lists counts
  pub asked : Asked o ((file, Ok bytes) ∷ (report, Ok shown) ∷ [])

-- and they can be replayed
pub record IsGiven (o : Outside) (file report : List ℕ) (g : Given) : Type 0 where
  pub given : AreGiven o file report (program_in g.program) (lists_shape g.lists) (counts_shape g.counts)
  pub replayable : AreReplayable (lists_shape g.lists) (counts_shape g.counts)

-- a program with a fault is told of
pub record TellsFault (o : Outside) (file text : List ℕ) (status : ℕ) : Type 0 where
  pub told : TellsFile o file text status
  pub fault : HasFault told.bytes
  pub status_is : status ≡ 3

abbrev pub IsLoaded : Outside → (file report : List ℕ) → Loaded → Type 0
IsLoaded o file report (loaded.Faulty a) = TellsFault o file a.text.items a.status
IsLoaded o file report (loaded.Given g) = IsGiven o file report g

-- why they are not read: of the program's file, or of the report's behind a checked program
abbrev pub StopsLoading : Outside → (file report : List ℕ) → Refusal → Type 0
StopsLoading o file report r = StopsAtFile o file r
    ⊎ ((bytes : List ℕ) × (program : Marked) × IsProgramOf bytes program
    × StopsAtReport o ((file, Ok bytes) ∷ []) First report r)
