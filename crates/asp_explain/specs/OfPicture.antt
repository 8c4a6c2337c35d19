-- A picture of events of a run.
use Rattle.std.specs.Prelude.{◌⊎◌, ℕ, List}
use Rattle.asp_model.specs.Marked.{Marked, plain}
use Rattle.asp_model.specs.Replay.{CountsShape}
use Rattle.asp_model.specs.Step.{ListsShape}
use Rattle.asp_model.specs.Term.{Tree}
use Rattle.explain.specs.declared.events.EventsRun.{EventsRun}
use Rattle.explain.specs.Large.{IsLarge}
use Rattle.asp_explain.specs.Tasks.{PageShape}
use Rattle.asp_explain.specs.Refusals.{LargePicture, NoMemory, Refusal}
use Rattle.asp_explain.specs.Seen.{Outside}
use Rattle.asp_explain.specs.Given.{AreGiven, StopsLoading}
use Rattle.asp_explain.specs.OfEvents.{AreEventsSeen, StopsAtEvents}

-- why no picture of these events is drawn
abbrev pub StopsDrawing : EventsRun → Refusal → Type 0
StopsDrawing run LargePicture = IsLarge run
StopsDrawing run NoMemory = Unit {0}
StopsDrawing run r = ⊥

-- why no picture of the events of a replay is drawn
pub record AreNotDrawn (program : Tree) (lists : ListsShape) (counts : CountsShape) (page : PageShape)
    (r : Refusal) : Type 0 where
  pub run : EventsRun
  pub seen : AreEventsSeen program lists counts page run
  pub stops : StopsDrawing run r

abbrev pub StopsAtPicture : Tree → ListsShape → CountsShape → PageShape → Refusal → Type 0
StopsAtPicture program lists counts page r =
    StopsAtEvents program lists counts page r ⊎ AreNotDrawn program lists counts page r

pub record StopsPictureThere (o : Outside) (file report : List ℕ) (page : PageShape) (r : Refusal) : Type 0 where
  pub program : Marked
  pub lists : ListsShape
  pub counts : CountsShape
  pub given : AreGiven o file report program lists counts
  pub stops : StopsAtPicture (plain program) lists counts page r

-- why nothing is drawn; what is drawn is read from the same events as what is told
abbrev pub StopsPicture : Outside → (file report : List ℕ) → PageShape → Refusal → Type 0
StopsPicture o file report page r = StopsLoading o file report r ⊎ StopsPictureThere o file report page r
