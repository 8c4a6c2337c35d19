-- How a call ends: read `Ends` first.
use Rattle.std.specs.Prelude.{◌≡◌, ◌⊎◌, ◌≤◌, ◌-◌, ℕ, List, [], ◌∷◌, ◌++◌, Option, Some, None, false, codes, length}
use Rattle.std.specs.Fmt.{decimal}
use Rattle.asp_model.specs.Marked.{Marked, plain}
use Rattle.asp_model.specs.Names.{Text}
use Rattle.asp_model.specs.Term.{Tree}
use Rattle.asp_model.specs.Report.{with_feed}
use Rattle.asp_top.specs.Refusals.{NoMemory, Refusal, message_of, status_of_refusal, write_message}
use Rattle.asp_top.specs.Seen.{Call, IsUntouched, Outside, Takes, TakesFront}
use Rattle.asp_top.specs.Stops.{RefusedInFile}
use Rattle.asp_top.specs.Programs.{AsksInTurn, IsInFile}
use Rattle.law_families.specs.Families.{RunLogs}
use Rattle.outcomes_words.specs.Words.{AskNothing, TaskShape, is_taken, task_of}
use Rattle.outcomes_words.specs.declared.task.Choice.{Choice}
use Rattle.outcomes_words.specs.declared.task.Choice.TheVariants as choices
use Rattle.outcomes_top.specs.declared.halt.Fault.{Fault}
use Rattle.outcomes_top.specs.Correct.{Answers, AreAsked, Found, outcomes_of}
use Rattle.outcomes_top.specs.Given.{RefusedAmong, message_of_fault, status_of_fault}

abbrev pub usage_line : List ℕ
usage_line = with_feed (codes "asp-outcomes: usage: asp-outcomes FILE [OPTION ..]")

abbrev pub missing_line : Choice → List ℕ
missing_line (choices.Outcome number) = with_feed (codes "asp-outcomes: no outcome " ++ decimal number)
missing_line (choices.End number) = with_feed (codes "asp-outcomes: no end " ++ decimal number)

-- there are fewer ends than the number of the choice says, or the ends have fewer outcomes
abbrev pub HaveFewer : Option ℕ → Tree → List RunLogs → Choice → Type 0
HaveFewer depth program ends (choices.Outcome number) = length (outcomes_of depth program ends) ≤ number - 1
HaveFewer depth program ends (choices.End number) = length ends ≤ number - 1

-- so it is of some ends of the program, that were found or given
abbrev pub HasFewer : Outside → TaskShape → Tree → Choice → Type 0
HasFewer o task program choice =
    (f : Found program) × AreAsked o task program f × HaveFewer task.depth program f.ends choice

-- why nothing is told, with the message and the status of it: the words ask for nothing, memory ran out, the
-- file is no checked program or cannot be read, one of the given reports is refused, or there is no outcome or
-- no end of the number that is asked for
pub data IsCause (words : List (List ℕ)) (o : Outside) (message : List ℕ) (status : ℕ) : Type 0 where
  OfWords : AskNothing words → message ≡ usage_line → status ≡ 2 → IsCause words o message status
  OfMemory : message ≡ message_of NoMemory → status ≡ 8 → IsCause words o message status
  OfFile : (task : TaskShape) → task_of words ≡ Some task → (r : Refusal) → RefusedInFile o task.file r
      → message ≡ message_of r → status ≡ status_of_refusal r → IsCause words o message status
  OfGiven : (task : TaskShape) → task_of words ≡ Some task → (program : Marked) → IsInFile o task.file program
      → (name : Text) (fault : Fault) → RefusedAmong o 1 (plain program) task.given name fault
      → message ≡ message_of_fault name fault → status ≡ status_of_fault fault → IsCause words o message status
  OfChoice : (task : TaskShape) → task_of words ≡ Some task → (program : Marked) → IsInFile o task.file program
      → (choice : Choice) → task.choice ≡ Some choice → HasFewer o task (plain program) choice
      → message ≡ missing_line choice → status ≡ 2 → IsCause words o message status

-- what is written: for the words' task, or the help
pub data IsAnswer (words : List (List ℕ)) (o : Outside) (text : List ℕ) (status : ℕ) : Type 0 where
  OfTask : (task : TaskShape) → task_of words ≡ Some task → Answers o task text status → IsAnswer words o text status
  OfHelp : is_taken words ≡ false → status ≡ 0 → IsAnswer words o text status

-- how the call ends: the status, and what `out` and `err` took
pub data Ends (c : Call) (status : ℕ) : Type 0 where
  Written : (text : List ℕ) → IsAnswer c.words c.outside text status
      → Takes c.out text → IsUntouched c.err → Ends c status
  Refused : (message : List ℕ) → IsCause c.words c.outside message status
      → IsUntouched c.out → Takes c.err message → Ends c status
  Unheard : (message : List ℕ) (other : ℕ) → IsCause c.words c.outside message other
      → IsUntouched c.out → TakesFront c.err message → status ≡ 7 → Ends c status
  Unwritten : (text : List ℕ) (other : ℕ) → IsAnswer c.words c.outside text other → TakesFront c.out text
      → Takes c.err write_message ⊎ TakesFront c.err write_message → status ≡ 7 → Ends c status

-- Which files are asked for

-- the files that a task names, in their order: the program's, and then the given reports
abbrev pub files_of : Option TaskShape → List Text
files_of None = []
files_of (Some task) = task.file ∷ task.given

-- nothing was asked in the call but the files that the words name, in turn
abbrev pub ReadsFiles : List (List ℕ) → Outside → Type 0
ReadsFiles words o = AsksInTurn o (files_of (task_of words))
