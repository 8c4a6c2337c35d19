-- How a call ends, case by case: read `Ends` first.
use Rattle.std.specs.Prelude.{◌≡◌, ◌⊎◌, ℕ, ◌+◌, List, Some, None}
use Rattle.asp_model.specs.declared.limits.TheConstants.{MOST_PROGRAM_BYTES, MOST_REPORT_BYTES, MOST_TRACE_BYTES}
use Rattle.asp_model.specs.declared.limits.TheConstants.{MOST_CHECKPOINT_BYTES}
use Rattle.asp_model.specs.History.{EntryShape}
use Rattle.asp_model.specs.Names.{Name}
use Rattle.asp_model.specs.Marked.{Marked, plain}
use Rattle.asp_model.specs.Step.{ListsShape}
use Rattle.asp_model.specs.Replay.{CountsShape, Fits, IsLeastDiverging}
use Rattle.asp_model.specs.ReadReport.{read_report, BadLine}
use Rattle.asp_syntax.specs.declared.error.SyntaxFault.{SyntaxFault}
use Rattle.syntax_tokens.specs.Tokens.{lexemes_of}
use Rattle.asp_syntax.specs.Faults.{FirstFault}
use Rattle.syntax_grammar.specs.Programs.{IsProgramText}
use Rattle.asp_check.specs.declared.fault.CheckFault.{CheckFault}
use Rattle.asp_check.specs.Faults.{IsChecked, IsFirstFault}
use Rattle.trace_text.specs.Traces as Trace
use Rattle.trace_text.specs.Traces.{read_trace}
use Rattle.trace_check.specs.Checks.{IsUnfinished, IsUnlawfulAt}
use Rattle.run_files.specs.declared.stop.FileStop.{FileStop}
use Rattle.run_files.specs.declared.stop.FileStop.TheVariants as why
use Rattle.run_files.specs.Files.{StopsFile}
use Rattle.command_line.specs.Task.{TaskShape, task_of}
use Rattle.asp_top.specs.declared.stop.Which.{Which}
use Rattle.asp_top.specs.declared.stop.Which.TheVariants.{First, Second}
use Rattle.asp_top.specs.Seen.{Call, Outside, ReadFails, IsLong, IsUntouched, Takes, TakesFront}
use Rattle.asp_top.specs.Refusals.{Refusal, Usage, Unread, LongProgram, NoProgram, Unchecked, NoMemory}
use Rattle.asp_top.specs.Refusals.{LongReport, NoReport, Diverges, LongTrace, NoTrace, Unlawful, Unfinished}
use Rattle.asp_top.specs.Refusals.{LongCheckpoint, OtherCheckpoint, NoCheckpoint, Overspent}
use Rattle.asp_top.specs.Refusals.{status_of_refusal, message_of, write_message}
use Rattle.asp_top.specs.Programs.{IsFile, IsText, HasProgram, HasReplay, HasReport, HasTrace}
use Rattle.asp_top.specs.Programs.{NamesProgram, NamesReport, NamesTrace, NamesCheckpoint, place_of}
use Rattle.asp_top.specs.Correct.{Answers}

-- the bytes are no program, and this is their first fault
pub record IsFaultyText (bytes : List ℕ) (fault : SyntaxFault) : Type 0 where
  pub first : FirstFault (lexemes_of bytes) fault
  pub none : (program : Marked) → IsProgramText bytes program → ⊥

-- the bytes are a program that is not checked, and this is its first fault
pub record IsUncheckedText (bytes : List ℕ) (fault : CheckFault) : Type 0 where
  pub program : Marked
  pub is_read : IsProgramText bytes program
  pub first : IsFirstFault program fault
  pub none : (program : Marked) → IsProgramText bytes program → IsChecked program → ⊥

-- the file of the task's program is longer than a program may be
pub record HasLongProgram (o : Outside) (task : TaskShape) : Type 0 where
  pub name : List ℕ
  pub named : NamesProgram task name
  pub long : IsLong o 0 name MOST_PROGRAM_BYTES

-- the report that comes before this one fits the program
abbrev pub IsBehind : Outside → TaskShape → Marked → Which → Type 0
IsBehind o task program First = Unit {0}
IsBehind o task program Second = (name : List ℕ) × NamesReport task First name × HasReplay o 1 name program

-- the task has a program, and comes to one of its reports
pub record ComesTo (o : Outside) (task : TaskShape) (which : Which) (name : List ℕ) (program : Marked) : Type 0 where
  pub given : HasProgram o task program
  pub named : NamesReport task which name
  pub behind : IsBehind o task program which

-- this one is too long
pub record HasLongReport (o : Outside) (task : TaskShape) (which : Which) : Type 0 where
  pub program : Marked
  pub name : List ℕ
  pub comes : ComesTo o task which name program
  pub long : IsLong o (place_of which) name MOST_REPORT_BYTES

-- it is no report: this is the first line that cannot stand in its place
pub record HasBadLine (o : Outside) (task : TaskShape) (which : Which) (line : ℕ) : Type 0 where
  pub program : Marked
  pub name : List ℕ
  pub comes : ComesTo o task which name program
  pub bytes : List ℕ
  pub file : IsFile o (place_of which) name MOST_REPORT_BYTES bytes
  pub reads : read_report bytes ≡ BadLine line

-- it does not fit the program: this is the least activity that shows it
pub record HasDivergence (o : Outside) (task : TaskShape) (which : Which) (activity : Name) : Type 0 where
  pub program : Marked
  pub name : List ℕ
  pub comes : ComesTo o task which name program
  pub lists : ListsShape
  pub counts : CountsShape
  pub old : HasReport o (place_of which) name lists counts
  pub least : IsLeastDiverging (plain program) lists counts activity
  pub unfit : Fits (plain program) lists counts → ⊥

-- the task has a program, and comes to a trace of it, from this budget
pub record ComesToTrace (o : Outside) (task : TaskShape) (name : List ℕ) (budget : ℕ) (program : Marked)
    : Type 0 where
  pub given : HasProgram o task program
  pub named : NamesTrace task name budget

-- the trace is too long
pub record HasLongTrace (o : Outside) (task : TaskShape) : Type 0 where
  pub program : Marked
  pub name : List ℕ
  pub budget : ℕ
  pub comes : ComesToTrace o task name budget program
  pub long : IsLong o 1 name MOST_TRACE_BYTES

-- it is no trace: this is the first line that cannot stand in its place
pub record HasNoTrace (o : Outside) (task : TaskShape) (line : ℕ) : Type 0 where
  pub program : Marked
  pub name : List ℕ
  pub budget : ℕ
  pub comes : ComesToTrace o task name budget program
  pub bytes : List ℕ
  pub file : IsFile o 1 name MOST_TRACE_BYTES bytes
  pub reads : read_trace bytes ≡ Trace.BadLine line

-- it is a trace, and this entry, by its number from 1, is the first that is not lawful behind those before it
pub record HasUnlawful (o : Outside) (task : TaskShape) (entry : ℕ) : Type 0 where
  pub program : Marked
  pub name : List ℕ
  pub budget : ℕ
  pub comes : ComesToTrace o task name budget program
  pub entries : List EntryShape
  pub old : HasTrace o 1 name entries
  pub number : ℕ
  pub is : entry ≡ number + 1
  pub unlawful : IsUnlawfulAt (plain program) budget entries number

-- its entries are a lawful journal, whose run has not ended
pub record HasUnfinished (o : Outside) (task : TaskShape) : Type 0 where
  pub program : Marked
  pub name : List ℕ
  pub budget : ℕ
  pub comes : ComesToTrace o task name budget program
  pub entries : List EntryShape
  pub old : HasTrace o 1 name entries
  pub unfinished : IsUnfinished (plain program) budget entries

-- the task has a program, and comes to a checkpoint of it, from which a run goes on with this budget
pub record ComesToCheckpoint (o : Outside) (task : TaskShape) (name : List ℕ) (budget : ℕ) (program : Marked)
    : Type 0 where
  pub given : HasProgram o task program
  pub named : NamesCheckpoint task name budget

-- the checkpoint is too long
pub record HasLongCheckpoint (o : Outside) (task : TaskShape) : Type 0 where
  pub program : Marked
  pub name : List ℕ
  pub budget : ℕ
  pub comes : ComesToCheckpoint o task name budget program
  pub long : IsLong o 1 name MOST_CHECKPOINT_BYTES

-- no run goes on from it, for this cause
pub record HasNoResume (o : Outside) (task : TaskShape) (stop : FileStop) : Type 0 where
  pub program : Marked
  pub name : List ℕ
  pub budget : ℕ
  pub comes : ComesToCheckpoint o task name budget program
  pub bytes : List ℕ
  pub file : IsFile o 1 name MOST_CHECKPOINT_BYTES bytes
  pub stops : StopsFile program bytes budget stop

-- a file could not be read: the program's, or a report, a trace or a checkpoint to which the task comes
pub data IsUnread (o : Outside) (task : TaskShape) (name : List ℕ) : Type 0 where
  OfProgram : NamesProgram task name → ReadFails o 0 name → IsUnread o task name
  OfReport : (which : Which) (program : Marked) → ComesTo o task which name program
      → ReadFails o (place_of which) name → IsUnread o task name
  OfTrace : (budget : ℕ) (program : Marked) → ComesToTrace o task name budget program
      → ReadFails o 1 name → IsUnread o task name
  OfCheckpoint : (budget : ℕ) (program : Marked) → ComesToCheckpoint o task name budget program
      → ReadFails o 1 name → IsUnread o task name

-- the cause of a refusal of a task
abbrev pub HoldsFor : Outside → TaskShape → Refusal → Type 0
HoldsFor o task Usage = ⊥
HoldsFor o task (Unread name) = IsUnread o task name
HoldsFor o task LongProgram = HasLongProgram o task
HoldsFor o task (NoProgram fault) =
    (bytes : List ℕ) × IsText o task bytes × IsFaultyText bytes fault
HoldsFor o task (Unchecked fault) =
    (bytes : List ℕ) × IsText o task bytes × IsUncheckedText bytes fault
HoldsFor o task (LongReport which) = HasLongReport o task which
HoldsFor o task (NoReport which line) = HasBadLine o task which line
HoldsFor o task (Diverges which activity) = HasDivergence o task which activity
HoldsFor o task LongTrace = HasLongTrace o task
HoldsFor o task (NoTrace line) = HasNoTrace o task line
HoldsFor o task (Unlawful entry) = HasUnlawful o task entry
HoldsFor o task Unfinished = HasUnfinished o task
HoldsFor o task LongCheckpoint = HasLongCheckpoint o task
HoldsFor o task OtherCheckpoint = HasNoResume o task why.OtherProgram
HoldsFor o task NoCheckpoint = HasNoResume o task why.Malformed
HoldsFor o task Overspent = HasNoResume o task why.TooMany
HoldsFor o task NoMemory = Unit {0}

-- the cause of a refusal: the words ask for nothing, memory ran out, or it is one of the task
pub data Holds (words : List (List ℕ)) (o : Outside) (r : Refusal) : Type 0 where
  OfWords : r ≡ Usage → task_of words ≡ None → Holds words o r
  OfMemory : r ≡ NoMemory → Holds words o r
  OfTask : (task : TaskShape) → task_of words ≡ Some task → HoldsFor o task r → Holds words o r

-- what the words' task has written
pub record Answered (words : List (List ℕ)) (o : Outside)
    (text : List ℕ) (status : ℕ) : Type 0 where
  pub task : TaskShape
  pub asked : task_of words ≡ Some task
  pub answer : Answers o task text status

-- a refusal of this call has its cause
abbrev pub IsCause : Call → Refusal → Type 0
IsCause c = Holds c.words c.outside

-- this is what the call's words ask to be written
abbrev pub IsAnswer : Call → List ℕ → ℕ → Type 0
IsAnswer c = Answered c.words c.outside

-- how the call ends: the status, and what `out` and `err` took
pub data Ends (c : Call) (status : ℕ) : Type 0 where
  Written : (text : List ℕ) → IsAnswer c text status
      → Takes c.out text → IsUntouched c.err → Ends c status
  Refused : (r : Refusal) → IsCause c r
      → IsUntouched c.out → Takes c.err (message_of r) → status ≡ status_of_refusal r
      → Ends c status
  Unheard : (r : Refusal) → IsCause c r
      → IsUntouched c.out → TakesFront c.err (message_of r) → status ≡ 7 → Ends c status
  Unwritten : (text : List ℕ) (other : ℕ) → IsAnswer c text other → TakesFront c.out text
      → Takes c.err write_message ⊎ TakesFront c.err write_message → status ≡ 7 → Ends c status
