-- Which status is to come: all of it follows from `Ends`.
use Rattle.std.specs.Prelude.{◌≡◌, ◌⊎◌, ℕ, ◌+◌, ◌≤◌, ◌<◌, List, length, Option, Some, Ok}
use Rattle.asp_model.specs.declared.limits.TheConstants.{MOST_PROGRAM_BYTES, MOST_REPORT_BYTES, MOST_TRACE_BYTES}
use Rattle.asp_model.specs.declared.limits.TheConstants.{MOST_CHECKPOINT_BYTES}
use Rattle.asp_model.specs.History.{EntryShape}
use Rattle.asp_model.specs.Marked.{Marked, plain}
use Rattle.asp_model.specs.Term.{Tree}
use Rattle.asp_model.specs.Step.{ListsShape}
use Rattle.asp_model.specs.Replay.{CountsShape, Fits, IsLeastDiverging}
use Rattle.asp_model.specs.ReadReport.{read_report, Reads, BadLine}
use Rattle.syntax_grammar.specs.Programs.{IsProgramText}
use Rattle.asp_check.specs.Faults.{IsChecked}
use Rattle.load_gen.specs.Generated.{generated}
use Rattle.law_traces.specs.Standings.{IsEndedJournal}
use Rattle.trace_text.specs.Traces as Trace
use Rattle.trace_text.specs.Traces.{read_trace}
use Rattle.trace_check.specs.Checks.{IsUnfinished, IsUnlawfulAt}
use Rattle.law_frozen.specs.Frozen.{FrozenShape}
use Rattle.run_files.specs.declared.stop.FileStop.TheVariants as why
use Rattle.run_files.specs.Files.{HasRoom, IsReadAs, StopsFile}
use Rattle.command_line.specs.Task.{TaskShape, Runs, Checks, Rules, Journals, Saves, Resumes, SavesAgain}
use Rattle.command_line.specs.Task.{Replays, Compares, Traces, Makes, task_of}
use Rattle.asp_top.specs.declared.stop.Which.{Which}
use Rattle.asp_top.specs.declared.stop.Which.TheVariants.{First, Second}
use Rattle.asp_top.specs.Seen.{Call, Outside, Gave, SomeReadFails, IsUntouched, Takes, Fails}
use Rattle.asp_top.specs.Refusals.{Refusal, LongReport, NoReport, Diverges, message_of}
use Rattle.asp_top.specs.Refusals.{LongTrace, NoTrace, Unlawful, Unfinished}
use Rattle.asp_top.specs.Refusals.{LongCheckpoint, OtherCheckpoint, NoCheckpoint, Overspent}
use Rattle.asp_top.specs.Programs.{IsProgramOf, HasProgram, NamesProgram, NamesReport, NamesTrace}
use Rattle.asp_top.specs.Programs.{NamesCheckpoint, place_of}
use Rattle.asp_top.specs.Correct.{IsReported}
use Rattle.asp_top.specs.Endings.{HoldsFor}
use Rattle.asp_top.specs.Statuses.{CouldNot, IsUnfit}

-- the source tells these bytes under the name, or hands them out when it is asked for it at this place
abbrev pub Has : Outside → ℕ → List ℕ → List ℕ → Type 0
Has o place name bytes = (o.content name ≡ Some bytes) ⊎ Gave o place name (Ok bytes)

-- and at most so many
abbrev pub HasShort : Outside → ℕ → List ℕ → ℕ → List ℕ → Type 0
HasShort o place name most bytes = Has o place name bytes × (length bytes ≤ most)

-- the source has these bytes for the text of the program, and they are short enough
abbrev pub HasText : Outside → TaskShape → List ℕ → Type 0
HasText o (Runs file settings depth) bytes = HasShort o 0 file MOST_PROGRAM_BYTES bytes
HasText o (Checks file) bytes = HasShort o 0 file MOST_PROGRAM_BYTES bytes
HasText o (Rules file settings) bytes = HasShort o 0 file MOST_PROGRAM_BYTES bytes
HasText o (Journals file settings) bytes = HasShort o 0 file MOST_PROGRAM_BYTES bytes
HasText o (Saves file settings) bytes = HasShort o 0 file MOST_PROGRAM_BYTES bytes
HasText o (Resumes file name settings depth) bytes = HasShort o 0 file MOST_PROGRAM_BYTES bytes
HasText o (SavesAgain file name settings) bytes = HasShort o 0 file MOST_PROGRAM_BYTES bytes
HasText o (Replays file name depth) bytes = HasShort o 0 file MOST_PROGRAM_BYTES bytes
HasText o (Compares file name other) bytes = HasShort o 0 file MOST_PROGRAM_BYTES bytes
HasText o (Traces file trace budget depth) bytes = HasShort o 0 file MOST_PROGRAM_BYTES bytes
HasText o (Makes pairs settings) bytes = bytes ≡ generated pairs

-- a report in these bytes reads as logs and counts that fit the program
pub record IsReportOf (program : Marked) (bytes : List ℕ) : Type 0 where
  pub lists : ListsShape
  pub counts : CountsShape
  pub reads : read_report bytes ≡ Reads lists counts
  pub fits : Fits (plain program) lists counts

-- the source has this report, and it is short enough and fits the program
abbrev pub MayReplayAt : Outside → ℕ → List ℕ → Marked → Type 0
MayReplayAt o place name program =
    (bytes : List ℕ) × HasShort o place name MOST_REPORT_BYTES bytes × IsReportOf program bytes

-- so has it each report that is named
abbrev pub MayReplay : Outside → TaskShape → Marked → Type 0
MayReplay o task program =
    (which : Which) (name : List ℕ) → NamesReport task which name → MayReplayAt o (place_of which) name program

-- these bytes are the trace of a lawful journal of the program, from the budget, whose run has ended
pub record IsTraceOf (program : Tree) (budget : ℕ) (bytes : List ℕ) : Type 0 where
  pub entries : List EntryShape
  pub reads : read_trace bytes ≡ Trace.Reads entries
  pub journal : IsEndedJournal program budget entries

-- the source has such a trace where one is named, and it is short enough
abbrev pub MayTrace : Outside → TaskShape → Marked → Type 0
MayTrace o task program = (name : List ℕ) (budget : ℕ) → NamesTrace task name budget
    → (bytes : List ℕ) × HasShort o 1 name MOST_TRACE_BYTES bytes × IsTraceOf (plain program) budget bytes

-- these bytes are a checkpoint of the program, and a run goes on from it with this budget
abbrev pub IsCheckpointOf : Marked → ℕ → List ℕ → Type 0
IsCheckpointOf program budget bytes = (f : FrozenShape) × IsReadAs program bytes f × HasRoom f budget

-- the source has such a checkpoint where one is named, and it is short enough
abbrev pub MayResume : Outside → TaskShape → Marked → Type 0
MayResume o task program = (name : List ℕ) (budget : ℕ) → NamesCheckpoint task name budget
    → (bytes : List ℕ) × HasShort o 1 name MOST_CHECKPOINT_BYTES bytes × IsCheckpointOf program budget bytes

-- the words ask for a task, the source has its files, and they are short enough, a checked program, reports
-- that fit it, traces of it that have ended and checkpoints from which a run goes on; no read fails, and no sink
pub record MayAnswer (c : Call) : Type 0 where
  pub task : TaskShape
  pub asked : task_of c.words ≡ Some task
  pub bytes : List ℕ
  pub had : HasText c.outside task bytes
  pub program : Marked
  pub is : IsProgramOf bytes program
  pub replays : MayReplay c.outside task program
  pub traces : MayTrace c.outside task program
  pub resumes : MayResume c.outside task program
  pub read : SomeReadFails c.outside → ⊥
  pub out_takes : Fails c.out → ⊥
  pub err_takes : Fails c.err → ⊥

-- the words name a file for the program that the source has, and it is too long, or no checked program
pub record AsksUnfit (c : Call) : Type 0 where
  pub task : TaskShape
  pub asked : task_of c.words ≡ Some task
  pub name : List ℕ
  pub named : NamesProgram task name
  pub bytes : List ℕ
  pub had : Has c.outside 0 name bytes
  pub unfit : (MOST_PROGRAM_BYTES < length bytes)
      ⊎ ((program : Marked) → IsProgramText bytes program → IsChecked program → ⊥)

-- the words name a report, and the source has it, and it is too long, or shows no logs and counts that fit the
-- program in the file
pub record AsksNoReplay (c : Call) : Type 0 where
  pub task : TaskShape
  pub asked : task_of c.words ≡ Some task
  pub which : Which
  pub name : List ℕ
  pub named : NamesReport task which name
  pub report : List ℕ
  pub had : Has c.outside (place_of which) name report
  pub unfit : (MOST_REPORT_BYTES < length report) ⊎ ((program : Marked)
      → HasProgram c.outside task program → IsReportOf program report → ⊥)

-- why one of the reports, in these bytes, is refused for a program: it is too long; or it is not of its form, by its
-- first bad line; or the program's replay diverges, at the least such activity
abbrev pub IsRefusedFor : Marked → Which → List ℕ → Refusal → Type 0
IsRefusedFor program which report (LongReport one) = (one ≡ which) × (MOST_REPORT_BYTES < length report)
IsRefusedFor program which report (NoReport one line) = (one ≡ which) × (read_report report ≡ BadLine line)
IsRefusedFor program which report (Diverges one activity) = (one ≡ which)
    × (lists : ListsShape) × (counts : CountsShape) × (read_report report ≡ Reads lists counts)
    × IsLeastDiverging (plain program) lists counts activity
IsRefusedFor program which report r = ⊥

-- it is the first report that is refused
abbrev pub IsOfFirst : Refusal → Type 0
IsOfFirst (LongReport First) = Unit {0}
IsOfFirst (NoReport First line) = Unit {0}
IsOfFirst (Diverges First activity) = Unit {0}
IsOfFirst r = ⊥

-- the one before it is refused
abbrev pub IsRefusedBefore : Outside → TaskShape → Which → Refusal → Type 0
IsRefusedBefore o task First r = ⊥
IsRefusedBefore o task Second r = IsOfFirst r × HoldsFor o task r

-- the report is refused for the program in the file, or the one before it, and one message tells why
pub record RefusesReport (c : Call) (a : AsksNoReplay c) (status : ℕ) : Type 0 where
  pub program : Marked
  pub given : HasProgram c.outside a.task program
  pub refusal : Refusal
  pub cause : IsRefusedFor program a.which a.report refusal ⊎ IsRefusedBefore c.outside a.task a.which refusal
  pub told : Takes c.err (message_of refusal)
  pub untouched : IsUntouched c.out
  pub answered : status ≡ 9

-- the words name a trace, and the source has it, and it is too long, or none of the program in the file that has ended
pub record AsksNoTrace (c : Call) : Type 0 where
  pub task : TaskShape
  pub asked : task_of c.words ≡ Some task
  pub name : List ℕ
  pub budget : ℕ
  pub named : NamesTrace task name budget
  pub trace : List ℕ
  pub had : Has c.outside 1 name trace
  pub unfit : (MOST_TRACE_BYTES < length trace) ⊎ ((program : Marked)
      → HasProgram c.outside task program → IsTraceOf (plain program) budget trace → ⊥)

-- why a trace, in these bytes, is refused for a program and a budget: it is too long; or it is not of its form, by its
-- first bad line; or an entry is not lawful, by the first such; or its run has not ended
abbrev pub IsUntracedFor : Tree → ℕ → List ℕ → Refusal → Type 0
IsUntracedFor program budget trace LongTrace = MOST_TRACE_BYTES < length trace
IsUntracedFor program budget trace (NoTrace line) = read_trace trace ≡ Trace.BadLine line
IsUntracedFor program budget trace (Unlawful entry) = (entries : List EntryShape)
    × (read_trace trace ≡ Trace.Reads entries) × (number : ℕ) × (entry ≡ number + 1)
    × IsUnlawfulAt program budget entries number
IsUntracedFor program budget trace Unfinished = (entries : List EntryShape)
    × (read_trace trace ≡ Trace.Reads entries) × IsUnfinished program budget entries
IsUntracedFor program budget trace r = ⊥

-- the trace is refused for the program in the file, and one message tells why
pub record RefusesTrace (c : Call) (a : AsksNoTrace c) (status : ℕ) : Type 0 where
  pub program : Marked
  pub given : HasProgram c.outside a.task program
  pub refusal : Refusal
  pub cause : IsUntracedFor (plain program) a.budget a.trace refusal
  pub told : Takes c.err (message_of refusal)
  pub untouched : IsUntouched c.out
  pub answered : status ≡ 10

-- the words name a checkpoint, and the source has it, and it is too long, or no run of the program in the file goes on
-- from it with the budget
pub record AsksNoResume (c : Call) : Type 0 where
  pub task : TaskShape
  pub asked : task_of c.words ≡ Some task
  pub name : List ℕ
  pub budget : ℕ
  pub named : NamesCheckpoint task name budget
  pub checkpoint : List ℕ
  pub had : Has c.outside 1 name checkpoint
  pub unfit : (MOST_CHECKPOINT_BYTES < length checkpoint) ⊎ ((program : Marked)
      → HasProgram c.outside task program → IsCheckpointOf program budget checkpoint → ⊥)

-- why a checkpoint, in these bytes, is refused for a program and a budget, tried in this order: it is too long; or its
-- second line has another program; or it is none, or not sound, or beyond its limits; or its counts and the budget are
-- too many
abbrev pub IsUnresumedFor : Marked → ℕ → List ℕ → Refusal → Type 0
IsUnresumedFor program budget bytes LongCheckpoint = MOST_CHECKPOINT_BYTES < length bytes
IsUnresumedFor program budget bytes OtherCheckpoint = StopsFile program bytes budget why.OtherProgram
IsUnresumedFor program budget bytes NoCheckpoint = StopsFile program bytes budget why.Malformed
IsUnresumedFor program budget bytes Overspent = StopsFile program bytes budget why.TooMany
IsUnresumedFor program budget bytes r = ⊥

-- the checkpoint is refused for the program in the file, and one message tells why
pub record RefusesCheckpoint (c : Call) (a : AsksNoResume c) (status : ℕ) : Type 0 where
  pub program : Marked
  pub given : HasProgram c.outside a.task program
  pub refusal : Refusal
  pub cause : IsUnresumedFor program a.budget a.checkpoint refusal
  pub told : Takes c.err (message_of refusal)
  pub untouched : IsUntouched c.out
  pub answered : status ≡ 11

-- what a good call gets
abbrev pub Completes : Call → ℕ → Type 0
Completes c status = MayAnswer c → IsReported status ⊎ (status ≡ 8)

-- the program is refused, with its cause
abbrev pub RefusesProgram : Call → ℕ → Type 0
RefusesProgram c status = (status ≡ 3) × IsUnfit c

-- what a program gets that is unfit
abbrev pub RefusesPrograms : Call → ℕ → Type 0
RefusesPrograms c status = AsksUnfit c → RefusesProgram c status ⊎ CouldNot c status

-- what a report gets that does not fit the program in the file, unless there is none
abbrev pub RefusesReports : Call → ℕ → Type 0
RefusesReports c status =
    (a : AsksNoReplay c) → RefusesReport c a status ⊎ RefusesProgram c status ⊎ CouldNot c status

-- what a trace gets that is none of the program in the file, unless there is none
abbrev pub RefusesTraces : Call → ℕ → Type 0
RefusesTraces c status =
    (a : AsksNoTrace c) → RefusesTrace c a status ⊎ RefusesProgram c status ⊎ CouldNot c status

-- what a checkpoint gets from which no run of the program in the file goes on, unless there is none
abbrev pub RefusesCheckpoints : Call → ℕ → Type 0
RefusesCheckpoints c status =
    (a : AsksNoResume c) → RefusesCheckpoint c a status ⊎ RefusesProgram c status ⊎ CouldNot c status

-- the words are refused, unless that cannot be told
abbrev pub IsUsageEnd : ℕ → Type 0
IsUsageEnd status = (status ≡ 2) ⊎ (status ≡ 7) ⊎ (status ≡ 8)
