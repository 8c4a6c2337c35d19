-- How a call ends: read `Ends` first.
use Rattle.std.specs.Prelude.{◌≡◌, ◌⊎◌, ℕ, List, Some, false}
use Rattle.asp_explain.specs.Words.{is_taken}
use Rattle.asp_explain.specs.Tasks.{AskNothing, Events, File, Other, Picture, Run, TaskShape, Until, task_of}
use Rattle.asp_explain.specs.Refusals.{NoMemory, Refusal, Usage, message_of, status_of_refusal, write_message}
use Rattle.explain_writing.specs.Writing.{IsUntouched, Takes, TakesFront}
use Rattle.asp_explain.specs.Seen.{Call, IsUnasked, Outside}
use Rattle.asp_explain.specs.Given.{StopsAtFile, TellsFile}
use Rattle.asp_explain.specs.OfRun.{StopsRun, TellsOfRun}
use Rattle.asp_explain.specs.OfEvents.{StopsEvents, TellsOfEvents}
use Rattle.asp_explain.specs.OfPicture.{StopsPicture}
use Rattle.asp_explain.specs.OfOther.{StopsOther, TellsOfOther}
use Rattle.asp_explain.specs.OfUntil.{StopsUntil, TellsUntil}

-- what is told for a task
abbrev pub Tells : Outside → TaskShape → List ℕ → ℕ → Type 0
Tells o (File file) text status = TellsFile o file text status
Tells o (Run file report) text status = TellsOfRun o file report text status
Tells o (Events file report page) text status = TellsOfEvents o file report page text status
Tells o (Other file report other picture) text status = TellsOfOther o file report other text status
Tells o (Picture file report page) text status = TellsOfEvents o file report page text status
Tells o (Until file report activity k) text status = TellsUntil o file report activity k text status

-- why nothing is told for it
abbrev pub StopsTask : Outside → TaskShape → Refusal → Type 0
StopsTask o (File file) r = StopsAtFile o file r
StopsTask o (Run file report) r = StopsRun o file report r
StopsTask o (Events file report page) r = StopsEvents o file report page r
StopsTask o (Other file report other picture) r = StopsOther o file report other picture r
StopsTask o (Picture file report page) r = StopsPicture o file report page r
StopsTask o (Until file report activity k) r = StopsUntil o file report activity k r

-- what is written where nothing is refused: what the words' task asks for, or the help
pub data Answers (words : List (List ℕ)) (o : Outside) (text : List ℕ) (status : ℕ) : Type 0 where
  OfTask : (task : TaskShape) → task_of words ≡ Some task → Tells o task text status → Answers words o text status
  OfHelp : is_taken words ≡ false → IsUnasked o → status ≡ 0 → Answers words o text status

-- the cause of a refusal: the words ask for nothing, memory ran out, or it is one of their task
pub data IsCause (words : List (List ℕ)) (o : Outside) (r : Refusal) : Type 0 where
  OfWords : r ≡ Usage → AskNothing words → IsUnasked o → IsCause words o r
  OfMemory : r ≡ NoMemory → IsCause words o r
  OfNamed : (task : TaskShape) → task_of words ≡ Some task → StopsTask o task r → IsCause words o r

-- how the call ends: the status, and what `out` and `err` took
pub data Ends (c : Call) (status : ℕ) : Type 0 where
  Written : (text : List ℕ) → Answers c.words c.outside text status
      → Takes c.out text → IsUntouched c.err → Ends c status
  Refused : (r : Refusal) → IsCause c.words c.outside r
      → IsUntouched c.out → Takes c.err (message_of r) → status ≡ status_of_refusal r → Ends c status
  Unheard : (r : Refusal) → IsCause c.words c.outside r
      → IsUntouched c.out → TakesFront c.err (message_of r) → status ≡ 7 → Ends c status
  Unwritten : (text : List ℕ) (other : ℕ) → Answers c.words c.outside text other → TakesFront c.out text
      → Takes c.err write_message ⊎ TakesFront c.err write_message → status ≡ 7 → Ends c status
