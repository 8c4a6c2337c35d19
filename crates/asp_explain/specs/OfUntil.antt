-- A report that is cut back.
use Rattle.std.specs.Prelude.{◌≡◌, ◌⊎◌, ℕ, List}
use Rattle.asp_model.specs.Marked.{Marked, plain}
use Rattle.asp_model.specs.Replay.{CountsShape}
use Rattle.asp_model.specs.Step.{ListsShape}
use Rattle.asp_model.specs.Term.{Tree}
use Rattle.run_waits.specs.Reports.{IsCutReport}
use Rattle.asp_explain.specs.Refusals.{Refusal}
use Rattle.asp_explain.specs.Seen.{Outside}
use Rattle.asp_explain.specs.Given.{AreGiven, StopsCut, StopsLoading, TellsFault}

-- the text is the report of the least cut
pub record IsCutTold (program : Tree) (lists : ListsShape) (counts : CountsShape) (activity : List ℕ) (k : ℕ)
    (text : List ℕ) (status : ℕ) : Type 0 where
  pub report : IsCutReport program lists counts activity k text
  pub status_is : status ≡ 0

pub record TellsCut (o : Outside) (file report activity : List ℕ) (k : ℕ) (text : List ℕ) (status : ℕ) : Type 0 where
  pub program : Marked
  pub lists : ListsShape
  pub counts : CountsShape
  pub given : AreGiven o file report program lists counts
  pub told : IsCutTold (plain program) lists counts activity k text status

-- or the program has a fault
abbrev pub TellsUntil : Outside → (file report activity : List ℕ) → ℕ → List ℕ → ℕ → Type 0
TellsUntil o file report activity k text status =
    TellsFault o file text status ⊎ TellsCut o file report activity k text status

pub record StopsCutThere (o : Outside) (file report activity : List ℕ) (k : ℕ) (r : Refusal) : Type 0 where
  pub program : Marked
  pub lists : ListsShape
  pub counts : CountsShape
  pub given : AreGiven o file report program lists counts
  pub stops : StopsCut (plain program) lists counts activity k r

-- why no report is cut back
abbrev pub StopsUntil : Outside → (file report activity : List ℕ) → ℕ → Refusal → Type 0
StopsUntil o file report activity k r = StopsLoading o file report r ⊎ StopsCutThere o file report activity k r
