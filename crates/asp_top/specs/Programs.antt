-- The files that a task names, and the program that it asks for.
use Rattle.std.specs.Prelude.{◌≡◌, ℕ, ◌≤◌, List, [], ◌∷◌, length, Option, Some, None, Ok, is_ok, false}
use Rattle.asp_model.specs.declared.limits.TheConstants.{MOST_PROGRAM_BYTES, MOST_REPORT_BYTES, MOST_TRACE_BYTES}
use Rattle.asp_model.specs.History.{EntryShape}
use Rattle.asp_model.specs.Marked.{Marked, plain}
use Rattle.asp_model.specs.Step.{ListsShape}
use Rattle.asp_model.specs.Replay.{CountsShape, Fits}
use Rattle.asp_model.specs.ReadReport.{read_report, Reads}
use Rattle.syntax_grammar.specs.Programs.{IsProgramText}
use Rattle.asp_check.specs.Faults.{IsChecked}
use Rattle.asp_edge.specs.Told.{Asks}
use Rattle.asp_edge.specs.Causes.{IsContent}
use Rattle.load_gen.specs.Generated.{generated}
use Rattle.trace_text.specs.Traces as Trace
use Rattle.trace_text.specs.Traces.{read_trace}
use Rattle.command_line.specs.Task.{TaskShape, Runs, Checks, Rules, Journals, Saves, Resumes, SavesAgain}
use Rattle.command_line.specs.Task.{Replays, Compares, Traces, Makes, task_of}
use Rattle.asp_top.specs.declared.stop.Which.{Which}
use Rattle.asp_top.specs.declared.stop.Which.TheVariants.{First, Second}
use Rattle.asp_top.specs.Seen.{Outside, Asked, Gave}

-- the file of this name, which was asked for at this place, has these bytes, and at most so many: the source
-- handed them out, and they are the content where it tells that
pub record IsFile (o : Outside) (place : ℕ) (name : List ℕ) (most : ℕ) (bytes : List ℕ) : Type 0 where
  pub gave : Gave o place name (Ok bytes)
  pub told : IsContent (o.content name) bytes
  pub within : length bytes ≤ most

-- the text of the program: the bytes of its file, which is asked for first, or the generated text
abbrev pub IsText : Outside → TaskShape → List ℕ → Type 0
IsText o (Runs file settings depth) bytes = IsFile o 0 file MOST_PROGRAM_BYTES bytes
IsText o (Checks file) bytes = IsFile o 0 file MOST_PROGRAM_BYTES bytes
IsText o (Rules file settings) bytes = IsFile o 0 file MOST_PROGRAM_BYTES bytes
IsText o (Journals file settings) bytes = IsFile o 0 file MOST_PROGRAM_BYTES bytes
IsText o (Saves file settings) bytes = IsFile o 0 file MOST_PROGRAM_BYTES bytes
IsText o (Resumes file checkpoint settings depth) bytes = IsFile o 0 file MOST_PROGRAM_BYTES bytes
IsText o (SavesAgain file checkpoint settings) bytes = IsFile o 0 file MOST_PROGRAM_BYTES bytes
IsText o (Replays file report depth) bytes = IsFile o 0 file MOST_PROGRAM_BYTES bytes
IsText o (Compares file report other) bytes = IsFile o 0 file MOST_PROGRAM_BYTES bytes
IsText o (Traces file trace budget depth) bytes = IsFile o 0 file MOST_PROGRAM_BYTES bytes
IsText o (Makes pairs settings) bytes = bytes ≡ generated pairs

-- the bytes are this program and no other, and it is checked
pub record IsProgramOf (bytes : List ℕ) (program : Marked) : Type 0 where
  pub is_read : IsProgramText bytes program
  pub only : (other : Marked) → IsProgramText bytes other → program ≡ other
  pub checked : IsChecked program

-- some bytes of which this holds are the program
pub record IsProgramAmong (IsOne : List ℕ → Type 0) (program : Marked) : Type 0 where
  pub bytes : List ℕ
  pub text : IsOne bytes
  pub is : IsProgramOf bytes program

-- the program in the file of this name
abbrev pub IsInFile : Outside → List ℕ → Marked → Type 0
IsInFile o name program = IsProgramAmong (IsFile o 0 name MOST_PROGRAM_BYTES) program

-- the program that a task asks for
abbrev pub HasProgram : Outside → TaskShape → Marked → Type 0
HasProgram o task program = IsProgramAmong (IsText o task) program

-- the file of this name, which was asked for at this place, is short enough, and a report with these
-- logs and counts
pub record HasReport (o : Outside) (place : ℕ) (name : List ℕ)
    (lists : ListsShape) (counts : CountsShape) : Type 0 where
  pub bytes : List ℕ
  pub file : IsFile o place name MOST_REPORT_BYTES bytes
  pub reads : read_report bytes ≡ Reads lists counts

-- and these fit the program
pub record HasReplay (o : Outside) (place : ℕ) (name : List ℕ) (program : Marked) : Type 0 where
  pub lists : ListsShape
  pub counts : CountsShape
  pub old : HasReport o place name lists counts
  pub fits : Fits (plain program) lists counts

-- the file of this name, which was asked for at this place, is short enough, and a trace of these entries
pub record HasTrace (o : Outside) (place : ℕ) (name : List ℕ) (entries : List EntryShape) : Type 0 where
  pub bytes : List ℕ
  pub file : IsFile o place name MOST_TRACE_BYTES bytes
  pub reads : read_trace bytes ≡ Trace.Reads entries

-- Which files are asked for

-- the task names a file for its program
abbrev pub NamesProgram : TaskShape → List ℕ → Type 0
NamesProgram (Runs file settings depth) name = file ≡ name
NamesProgram (Checks file) name = file ≡ name
NamesProgram (Rules file settings) name = file ≡ name
NamesProgram (Journals file settings) name = file ≡ name
NamesProgram (Saves file settings) name = file ≡ name
NamesProgram (Resumes file checkpoint settings depth) name = file ≡ name
NamesProgram (SavesAgain file checkpoint settings) name = file ≡ name
NamesProgram (Replays file report depth) name = file ≡ name
NamesProgram (Compares file report other) name = file ≡ name
NamesProgram (Traces file trace budget depth) name = file ≡ name
NamesProgram (Makes pairs settings) name = ⊥

-- the task names this for one of its reports
abbrev pub NamesReport : TaskShape → Which → List ℕ → Type 0
NamesReport (Replays file report depth) First name = report ≡ name
NamesReport (Compares file report other) First name = report ≡ name
NamesReport (Compares file report other) Second name = other ≡ name
NamesReport task which name = ⊥

-- and this for a trace of its program, from this budget
abbrev pub NamesTrace : TaskShape → List ℕ → ℕ → Type 0
NamesTrace (Traces file trace budget depth) name most = (trace ≡ name) × (budget ≡ most)
NamesTrace task name most = ⊥

-- and this for a checkpoint of it, from which a run goes on with this budget
abbrev pub NamesCheckpoint : TaskShape → List ℕ → ℕ → Type 0
NamesCheckpoint (Resumes file checkpoint settings depth) name most = (checkpoint ≡ name) × (settings.budget ≡ most)
NamesCheckpoint (SavesAgain file checkpoint settings) name most = (checkpoint ≡ name) × (settings.budget ≡ most)
NamesCheckpoint task name most = ⊥

-- where a report is asked for
abbrev pub place_of : Which → ℕ
place_of First = 1
place_of Second = 2

-- the files that a task names, in their order
abbrev pub files_of : TaskShape → List (List ℕ)
files_of (Runs file settings depth) = file ∷ []
files_of (Checks file) = file ∷ []
files_of (Rules file settings) = file ∷ []
files_of (Journals file settings) = file ∷ []
files_of (Saves file settings) = file ∷ []
files_of (Resumes file checkpoint settings depth) = file ∷ checkpoint ∷ []
files_of (SavesAgain file checkpoint settings) = file ∷ checkpoint ∷ []
files_of (Replays file report depth) = file ∷ report ∷ []
files_of (Compares file report other) = file ∷ report ∷ other ∷ []
files_of (Traces file trace budget depth) = file ∷ trace ∷ []
files_of (Makes pairs settings) = []

abbrev pub files_in : Option TaskShape → List (List ℕ)
files_in None = []
files_in (Some task) = files_of task

-- these names were asked for in turn, each once, and nothing after an answer that has no bytes
abbrev pub InTurn : List (List ℕ) → Asks → Type 0
InTurn names [] = Unit {0}
InTurn [] (ask ∷ asks) = ⊥
InTurn (name ∷ names) (ask ∷ asks) = (ask.0 ≡ name) × InTurn names asks × (is_ok ask.1 ≡ false → asks ≡ [])

-- what was asked in the call were these names in turn
pub record AsksInTurn (o : Outside) (names : List (List ℕ)) : Type 0 where
  pub asks : Asks
  pub asked : Asked o asks
  pub turn : InTurn names asks

-- nothing was asked in the call but the files that the words name, in turn: the program's, then reports, a trace or a
-- checkpoint
abbrev pub ReadsFiles : List (List ℕ) → Outside → Type 0
ReadsFiles words o = AsksInTurn o (files_in (task_of words))
