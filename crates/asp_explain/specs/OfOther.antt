-- A run beside another one.
use Rattle.std.specs.Prelude.{◌≡◌, ◌⊎◌, ℕ, Bool, true, List, [], ◌∷◌, Ok, map}
use Rattle.asp_model.specs.Marked.{Marked, plain}
use Rattle.asp_model.specs.ReadReport.{Reads, read_report}
use Rattle.asp_model.specs.Replay.{CountsShape, Fits}
use Rattle.asp_model.specs.Step.{ListsShape}
use Rattle.asp_model.specs.Term.{Tree}
use Rattle.replay_parts.specs.Notes.{replay_notes}
use Rattle.asp_explain.specs.declared.stop.Which.TheVariants.{First, Second}
use Rattle.explain.specs.declared.differences.first.Comparison.{Comparison}
use Rattle.explain.specs.Differences as differences
use Rattle.explain.specs.declared.differences.order.OrderedRun.{OrderedRun}
use Rattle.explain.specs.OrderKept.{entry_shape}
use Rattle.explain.specs.Orders.{EntryShape, order_of}
use Rattle.asp_explain.specs.Tasks.{whole_run}
use Rattle.asp_explain.specs.Refusals.{NoMemory, Refusal}
use Rattle.asp_explain.specs.Seen.{Asked, Outside}
use Rattle.asp_explain.specs.Given.{IsProgramOf, StopsAtReport, StopsLoading, StopsReplay, TellsFault}
use Rattle.asp_explain.specs.OfPicture.{StopsAtPicture}

-- the logs and counts of a replay fit, and this is the order in which it makes the entries of its logs
pub record IsOrdered (program : Tree) (lists : ListsShape) (counts : CountsShape) (run : OrderedRun) : Type 0 where
  pub fits : Fits program lists counts
  pub order : map entry_shape run.order.items ≡ order_of (replay_notes program lists counts)

-- how a run, by the order of its entries, differs from another one
pub record IsCompared (es : List EntryShape) (lists : ListsShape) (counts : CountsShape) (others : ListsShape)
    (other_counts : CountsShape) (status : ℕ) : Type 0 where
  pub comparison : Comparison
  pub differs : differences.Tells es lists counts others other_counts comparison
  pub status_is : status ≡ 0

-- both reports fit, and what is told is how the one run differs from the other
pub record IsOtherTold (program : Tree) (lists : ListsShape) (counts : CountsShape) (others : ListsShape)
    (other_counts : CountsShape) (status : ℕ) : Type 0 where
  pub fits : Fits program lists counts
  pub fits_too : Fits program others other_counts
  pub compared : IsCompared (order_of (replay_notes program lists counts)) lists counts others other_counts status

-- the source handed out a program, a report of it, and another report
pub record AreBothGiven (o : Outside) (file report other : List ℕ) (program : Marked) (lists : ListsShape)
    (counts : CountsShape) (others : ListsShape) (other_counts : CountsShape) : Type 0 where
  pub bytes : List ℕ
  pub is : IsProgramOf bytes program
  pub shown : List ℕ
  pub reads : read_report shown ≡ Reads lists counts
  pub shown_too : List ℕ
  pub reads_too : read_report shown_too ≡ Reads others other_counts
  pub asked : Asked o ((file, Ok bytes) ∷ (report, Ok shown) ∷ (other, Ok shown_too) ∷ [])

pub record TellsOther (o : Outside) (file report other : List ℕ) (status : ℕ) : Type 0 where
  pub program : Marked
  pub lists : ListsShape
  pub counts : CountsShape
  pub others : ListsShape
  pub other_counts : CountsShape
  pub given : AreBothGiven o file report other program lists counts others other_counts
  pub told : IsOtherTold (plain program) lists counts others other_counts status

-- or the program has a fault
abbrev pub TellsOfOther : Outside → (file report other text : List ℕ) → ℕ → Type 0
TellsOfOther o file report other text status = TellsFault o file text status ⊎ TellsOther o file report other status

-- the other report is not read, behind a program and a report
pub record StopsAtOther (o : Outside) (file report other : List ℕ) (r : Refusal) : Type 0 where
  pub bytes : List ℕ
  pub program : Marked
  pub is : IsProgramOf bytes program
  pub shown : List ℕ
  pub lists : ListsShape
  pub counts : CountsShape
  pub reads : read_report shown ≡ Reads lists counts
  pub stops : StopsAtReport o ((file, Ok bytes) ∷ (report, Ok shown) ∷ []) Second other r

-- memory ran out, or a picture is asked for, and not drawn of the whole run
abbrev pub StopsPictured : Bool → Tree → ListsShape → CountsShape → Refusal → Type 0
StopsPictured picture program lists counts r =
    (r ≡ NoMemory) ⊎ ((picture ≡ true) × StopsAtPicture program lists counts whole_run r)

-- the replay of the one stops, or that of the other
abbrev pub StopsReplays : Tree → ListsShape → CountsShape → ListsShape → CountsShape → Refusal → Type 0
StopsReplays program lists counts others other_counts r =
    StopsReplay program lists counts First r ⊎ StopsReplay program others other_counts Second r

-- or no picture is drawn of the one
abbrev pub StopsCompared : Bool → Tree → ListsShape → CountsShape → ListsShape → CountsShape → Refusal → Type 0
StopsCompared picture program lists counts others other_counts r =
    StopsReplays program lists counts others other_counts r ⊎ StopsPictured picture program lists counts r

pub record StopsOtherThere (o : Outside) (file report other : List ℕ) (picture : Bool) (r : Refusal) : Type 0 where
  pub program : Marked
  pub lists : ListsShape
  pub counts : CountsShape
  pub others : ListsShape
  pub other_counts : CountsShape
  pub given : AreBothGiven o file report other program lists counts others other_counts
  pub stops : StopsCompared picture (plain program) lists counts others other_counts r

abbrev pub StopsOther : Outside → (file report other : List ℕ) → Bool → Refusal → Type 0
StopsOther o file report other picture r =
    StopsLoading o file report r ⊎ (StopsAtOther o file report other r ⊎ StopsOtherThere o file report other picture r)
