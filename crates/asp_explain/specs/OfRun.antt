-- Why a run stands as it does.
use Rattle.std.specs.Prelude.{◌≡◌, ◌⊎◌, ℕ, List}
use Rattle.asp_model.specs.Marked.{Marked, plain}
use Rattle.asp_model.specs.Replay.{CountsShape, Fits, replay}
use Rattle.asp_model.specs.Step.{ListsShape}
use Rattle.asp_model.specs.Term.{Tree}
use Rattle.replay_parts.specs.Notes.{replay_notes}
use Rattle.run_waits.specs.declared.explained.Explained.{Explained}
use Rattle.run_waits.specs.Books.{KeepsBooks}
use Rattle.run_waits.specs.Explains.{IsExplained}
use Rattle.asp_explain.specs.declared.stop.Which.TheVariants.{First}
use Rattle.asp_explain.specs.Refusals.{Refusal}
use Rattle.asp_explain.specs.Seen.{Outside}
use Rattle.asp_explain.specs.Given.{AreGiven, StopsLoading, StopsReplay, TellsFault}

-- the logs and counts fit the program, and what is told is read from the end of its replay
pub record IsRunTold (program : Tree) (lists : ListsShape) (counts : CountsShape) (status : ℕ) : Type 0 where
  pub fits : Fits program lists counts
  pub explained : Explained
  pub is : IsExplained (replay program lists counts) explained
  pub books : KeepsBooks explained.books (replay_notes program lists counts)
  pub status_is : status ≡ 0

-- those of the report that the source handed out, of the program that it handed out
pub record TellsRun (o : Outside) (file report : List ℕ) (status : ℕ) : Type 0 where
  pub program : Marked
  pub lists : ListsShape
  pub counts : CountsShape
  pub given : AreGiven o file report program lists counts
  pub told : IsRunTold (plain program) lists counts status

-- or the program has a fault
abbrev pub TellsOfRun : Outside → (file report text : List ℕ) → ℕ → Type 0
TellsOfRun o file report text status = TellsFault o file text status ⊎ TellsRun o file report status

-- the replay of a program and a report stops
pub record StopsThere (o : Outside) (file report : List ℕ) (r : Refusal) : Type 0 where
  pub program : Marked
  pub lists : ListsShape
  pub counts : CountsShape
  pub given : AreGiven o file report program lists counts
  pub stops : StopsReplay (plain program) lists counts First r

-- why nothing is told of a run
abbrev pub StopsRun : Outside → (file report : List ℕ) → Refusal → Type 0
StopsRun o file report r = StopsLoading o file report r ⊎ StopsThere o file report r
