-- The events of a run.
use Rattle.std.specs.Prelude.{◌≡◌, ◌⊎◌, ℕ, ◌+◌, Bool, List, Option, Some, None, false, true}
use Rattle.std.specs.List.{list_any}
use Rattle.asp_model.specs.Marked.{Marked, plain}
use Rattle.asp_model.specs.Names.{Name, Text, same_name}
use Rattle.asp_model.specs.Outcome.{ActivityReportShape, outcome_of}
use Rattle.asp_model.specs.Replay.{CountsShape, Fits, replay}
use Rattle.asp_model.specs.ReportLines.{name_of}
use Rattle.asp_model.specs.Step.{ListsShape}
use Rattle.asp_model.specs.Term.{Tree}
use Rattle.asp_explain.specs.declared.stop.Which.TheVariants.{First}
use Rattle.explain.specs.declared.events.EventsRun.{EventsRun}
use Rattle.explain.specs.declared.events.page.Wish.{Wish}
use Rattle.explain.specs.EventRuns.{AreEventsOf}
use Rattle.asp_explain.specs.Tasks.{PageShape}
use Rattle.asp_explain.specs.Refusals.{NoActivity, NoMemory, Refusal}
use Rattle.asp_explain.specs.Seen.{Outside}
use Rattle.asp_explain.specs.Given.{AreGiven, StopsLoading, StopsReplay, TellsFault}

-- the name that a page asks for
abbrev pub activity_on : Option Text → Option Name
activity_on None = None
activity_on (Some text) = name_of text

abbrev pub is_named : Option Name → List ActivityReportShape → Bool
is_named None activities = false
is_named (Some n) activities = list_any (λ a. same_name a.name n) activities

-- a text is the name of one of these activities
abbrev pub is_activity : Text → List ActivityReportShape → Bool
is_activity text activities = is_named (name_of text) activities

-- the activity that a page asks for is one of these
abbrev pub IsThere : Option Text → List ActivityReportShape → Type 0
IsThere None activities = Unit {0}
IsThere (Some text) activities = is_activity text activities ≡ true

-- or it is none of them
abbrev pub IsAbsent : Option Text → List ActivityReportShape → Refusal → Type 0
IsAbsent activity activities (NoActivity text) = (activity ≡ Some text) × (is_activity text activities ≡ false)
IsAbsent activity activities NoMemory = Unit {0}
IsAbsent activity activities r = ⊥

-- the activities at the end of a replay
abbrev pub activities_of : Tree → ListsShape → CountsShape → List ActivityReportShape
activities_of program lists counts = (outcome_of (replay program lists counts)).activities

-- what a page asks for of the events
pub record IsWish (page : PageShape) (wish : Wish) : Type 0 where
  pub activity : wish.activity ≡ activity_on page.activity
  pub skip : wish.skip + 1 ≡ page.from
  pub most : wish.most ≡ page.most

-- the logs and counts fit the program, and the events are those of its replay that the page asks for
pub record AreEventsSeen (program : Tree) (lists : ListsShape) (counts : CountsShape) (page : PageShape)
    (run : EventsRun) : Type 0 where
  pub fits : Fits program lists counts
  pub there : IsThere page.activity (activities_of program lists counts)
  pub wish : Wish
  pub is : IsWish page wish
  pub events : AreEventsOf program lists counts wish run

-- and they are told
pub record AreEventsTold (program : Tree) (lists : ListsShape) (counts : CountsShape) (page : PageShape)
    (status : ℕ) : Type 0 where
  pub run : EventsRun
  pub seen : AreEventsSeen program lists counts page run
  pub status_is : status ≡ 0

-- those of the report that the source handed out, of the program that it handed out
pub record TellsEvents (o : Outside) (file report : List ℕ) (page : PageShape) (status : ℕ) : Type 0 where
  pub program : Marked
  pub lists : ListsShape
  pub counts : CountsShape
  pub given : AreGiven o file report program lists counts
  pub told : AreEventsTold (plain program) lists counts page status

-- or the program has a fault
abbrev pub TellsOfEvents : Outside → (file report : List ℕ) → PageShape → (text : List ℕ) → ℕ → Type 0
TellsOfEvents o file report page text status = TellsFault o file text status ⊎ TellsEvents o file report page status

-- its replay stops, or the run does not have the activity
abbrev pub StopsAtEvents : Tree → ListsShape → CountsShape → PageShape → Refusal → Type 0
StopsAtEvents program lists counts page r = StopsReplay program lists counts First r
    ⊎ (Fits program lists counts × IsAbsent page.activity (activities_of program lists counts) r)

pub record StopsEventsThere (o : Outside) (file report : List ℕ) (page : PageShape) (r : Refusal) : Type 0 where
  pub program : Marked
  pub lists : ListsShape
  pub counts : CountsShape
  pub given : AreGiven o file report program lists counts
  pub stops : StopsAtEvents (plain program) lists counts page r

abbrev pub StopsEvents : Outside → (file report : List ℕ) → PageShape → Refusal → Type 0
StopsEvents o file report page r = StopsLoading o file report r ⊎ StopsEventsThere o file report page r
