-- Why there is nothing to write: for private functions alone.
use Rattle.std.specs.Prelude.{◌≡◌, ℕ, List, [], ◌∷◌, Result}
use Rattle.std.specs.declared.alloc.Global.{Global}
use Rattle.std.specs.declared.string.String.{String}
use Rattle.asp_model.specs.declared.limits.TheConstants.{MOST_PROGRAM_BYTES}
use Rattle.asp_model.specs.Marked.{Marked}
use Rattle.asp_model.specs.Shapes.{marked_of, tree_of}
use Rattle.asp_check.specs.declared.checked.Checked.{Checked}
use Rattle.asp_core.specs.EndOfRun.{IsEndOfRun}
use Rattle.asp_edge.specs.declared.edge.ReadError.{ReadError}
use Rattle.run_ends.specs.declared.ends.RunEnd.{RunEnd}
use Rattle.run_traces.specs.declared.traced.Traced.{Traced}
use Rattle.run_traces.specs.Traced.{IsTracedRun}
use Rattle.run_saves.specs.declared.saved.Saved.{Saved}
use Rattle.run_saves.specs.Saved.{IsSavedRun}
use Rattle.asp_syntax.specs.declared.error.SyntaxError.{SyntaxError}
use Rattle.asp_syntax.specs.declared.error.SyntaxError.TheVariants as syntax
use Rattle.asp_check.specs.declared.fault.CheckError.{CheckError}
use Rattle.asp_check.specs.declared.fault.CheckError.TheVariants as check
use Rattle.sender_log.specs.declared.error.LogError.{LogError}
use Rattle.sender_log.specs.declared.error.LogError.TheVariants as log
use Rattle.replay_one.specs.declared.replays.ReplayStop.{ReplayStop}
use Rattle.replay_one.specs.declared.replays.ReplayStop.TheVariants as replays
use Rattle.trace_text.specs.declared.error.TraceError.{TraceError}
use Rattle.trace_text.specs.declared.error.TraceError.TheVariants as trace
use Rattle.trace_check.specs.declared.error.TraceStop.{TraceStop}
use Rattle.trace_check.specs.declared.error.TraceStop.TheVariants as checked
use Rattle.run_files.specs.declared.stop.FileStop.{FileStop}
use Rattle.run_files.specs.declared.stop.FileStop.TheVariants as files
use Rattle.command_line.specs.declared.error.WordsError.{WordsError}
use Rattle.command_line.specs.declared.error.WordsError.TheVariants as words
use Rattle.command_line.specs.Task.{TaskShape}
use Rattle.asp_top.specs.declared.stop.Stop.{Stop}
use Rattle.asp_top.specs.declared.stop.Stop.TheVariants as stops
use Rattle.asp_top.specs.declared.stop.Which.{Which}
use Rattle.asp_top.specs.Seen.{Outside, Asked, ReadFails, IsLong, bytes_of}
use Rattle.asp_top.specs.Programs.{IsFile, IsInFile}
use Rattle.asp_top.specs.Refusals.{Refusal, Usage, Unread, LongProgram, NoProgram, Unchecked, NoMemory}
use Rattle.asp_top.specs.Refusals.{LongReport, NoReport, Diverges, LongTrace, NoTrace, Unlawful, Unfinished}
use Rattle.asp_top.specs.Refusals.{LongCheckpoint, OtherCheckpoint, NoCheckpoint, Overspent}
use Rattle.asp_top.specs.Endings.{IsFaultyText, IsUncheckedText, Holds, HoldsFor}

abbrev pub refusal_of : Stop → Refusal
refusal_of stops.Usage = Usage
refusal_of (stops.Unread name) = Unread name.now
refusal_of stops.LongProgram = LongProgram
refusal_of (stops.Syntax fault) = NoProgram fault
refusal_of (stops.Check fault) = Unchecked fault
refusal_of (stops.LongReport which) = LongReport which
refusal_of (stops.BadLine which line) = NoReport which line
refusal_of (stops.Diverged which activity) = Diverges which activity
refusal_of stops.LongTrace = LongTrace
refusal_of (stops.NoTrace line) = NoTrace line
refusal_of (stops.Unlawful entry) = Unlawful entry
refusal_of stops.Unfinished = Unfinished
refusal_of stops.LongCheckpoint = LongCheckpoint
refusal_of stops.OtherCheckpoint = OtherCheckpoint
refusal_of stops.NoCheckpoint = NoCheckpoint
refusal_of stops.Overspent = Overspent
refusal_of stops.Memory = NoMemory

-- the stops that errors are

abbrev pub words_stop : WordsError → Stop
words_stop words.Usage = stops.Usage
words_stop words.Memory = stops.Memory

abbrev pub syntax_stop : SyntaxError → Stop
syntax_stop (syntax.Fault fault) = stops.Syntax fault
syntax_stop syntax.Memory = stops.Memory

abbrev pub check_stop : CheckError → Stop
check_stop (check.Fault fault) = stops.Check fault
check_stop check.Memory = stops.Memory

abbrev pub log_stop : Which → LogError → Stop
log_stop which (log.BadLine line) = stops.BadLine which line
log_stop which log.Memory = stops.Memory

abbrev pub replay_stop : Which → ReplayStop → Stop
replay_stop which (replays.Diverged activity) = stops.Diverged which activity
replay_stop which replays.Memory = stops.Memory

abbrev pub trace_stop : TraceError → Stop
trace_stop (trace.BadLine line) = stops.NoTrace line
trace_stop trace.Memory = stops.Memory

abbrev pub checked_stop : TraceStop → Stop
checked_stop (checked.Unlawful entry) = stops.Unlawful entry
checked_stop checked.Unfinished = stops.Unfinished
checked_stop checked.Memory = stops.Memory

abbrev pub file_stop : FileStop → Stop
file_stop files.OtherProgram = stops.OtherCheckpoint
file_stop files.Malformed = stops.NoCheckpoint
file_stop files.TooMany = stops.Overspent
file_stop files.Memory = stops.Memory

-- the checked program that the code holds
abbrev pub program_in : Checked → Marked
program_in c = marked_of c.program.root

-- the program in the file of this name
abbrev pub IsCheckedFile : Outside → List ℕ → Checked → Type 0
IsCheckedFile o file c = IsInFile o file (program_in c)

-- the end of a run, within a budget, of the program in the file of this name
pub record IsRunOf (o : Outside) (file : List ℕ) (budget : ℕ) (end : RunEnd) : Type 0 where
  pub checked : Checked
  pub given : IsCheckedFile o file checked
  pub run : IsEndOfRun (tree_of checked.program.root) budget end

-- and the end of one with its trace
pub record IsTracedRunOf (o : Outside) (file : List ℕ) (budget : ℕ) (traced : Traced) : Type 0 where
  pub checked : Checked
  pub given : IsCheckedFile o file checked
  pub run : IsTracedRun (tree_of checked.program.root) budget traced

-- and what is left of one that is saved
pub record IsSavedRunOf (o : Outside) (file : List ℕ) (budget : ℕ) (saved : Saved) : Type 0 where
  pub checked : Checked
  pub given : IsCheckedFile o file checked
  pub run : IsSavedRun (program_in checked) budget saved

-- the cause of a stop at a text
abbrev pub RefusedAt : List ℕ → Refusal → Type 0
RefusedAt bytes (NoProgram fault) = IsFaultyText bytes fault
RefusedAt bytes (Unchecked fault) = IsUncheckedText bytes fault
RefusedAt bytes NoMemory = Unit {0}
RefusedAt bytes r = ⊥

abbrev pub StopsAt : List ℕ → Stop → Type 0
StopsAt bytes s = RefusedAt bytes (refusal_of s)

-- the cause of a stop at the file of a program
abbrev pub RefusedInFile : Outside → List ℕ → Refusal → Type 0
RefusedInFile o file (Unread name) = (file ≡ name) × ReadFails o 0 name
RefusedInFile o file LongProgram = IsLong o 0 file MOST_PROGRAM_BYTES
RefusedInFile o file (NoProgram fault) =
    (bytes : List ℕ) × IsFile o 0 file MOST_PROGRAM_BYTES bytes × IsFaultyText bytes fault
RefusedInFile o file (Unchecked fault) =
    (bytes : List ℕ) × IsFile o 0 file MOST_PROGRAM_BYTES bytes × IsUncheckedText bytes fault
RefusedInFile o file NoMemory = Unit {0}
RefusedInFile o file r = ⊥

abbrev pub StopsInFile : Outside → List ℕ → Stop → Type 0
StopsInFile o file s = RefusedInFile o file (refusal_of s)

-- in the call the source was asked for this name alone, once
pub record AsksOnce (o : Outside) (name : List ℕ) : Type 0 where
  pub answer : Result (List ℕ) ReadError
  pub asked : Asked o ((name, answer) ∷ [])

-- Tasks

abbrev pub StopsTask : Outside → TaskShape → Stop → Type 0
StopsTask o task s = HoldsFor o task (refusal_of s)

abbrev pub StopsWords : List (String Global) → Outside → Stop → Type 0
StopsWords words o s = Holds (bytes_of words) o (refusal_of s)
