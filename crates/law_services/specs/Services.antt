-- What the services of a replay find, and when they find the same in two replays.
use Rattle.std.specs.Prelude.{◌≡◌, ℕ, true, false, Bool, List, [], ◌∷◌, Option, Some, None, map, filter}
use Rattle.asp_model.specs.Names.{Name, Text}
use Rattle.asp_model.specs.Term.{Head, Serve, Tree, has_text}
use Rattle.asp_model.specs.Split.{Split, Stands, Splits, split}
use Rattle.asp_model.specs.Store.{CellShape, cell}
use Rattle.asp_model.specs.Configuration.{RequestShape, ReceptionShape, From, Poll, Activity, Configuration}
use Rattle.asp_model.specs.Configuration.{label_of, requests_of, log_of, start}
use Rattle.asp_model.specs.Intent.{labels_served}
use Rattle.asp_model.specs.Services.{ArrivalShape}
use Rattle.asp_model.specs.Step.{ListsShape}
use Rattle.asp_model.specs.Replay.{CountsShape, count_in, replay, steps_from}
use Rattle.law_steps.specs.Reached.{IsAt}

-- a request as a service sees it
abbrev pub arrival_of : RequestShape → ArrivalShape
arrival_of r = record { sender = r.sender; label = label_of r }

-- it asks for one of these labels
abbrev pub has_one_of : List Text → RequestShape → Bool
has_one_of labels r = has_text (label_of r) labels

-- what an activity received with a label of the set, oldest first
abbrev pub arrivals_within : List Text → Configuration → Name → List ArrivalShape
arrivals_within labels c n = map arrival_of (filter (has_one_of labels) (requests_of c n))

-- the labels that a `serve` takes, where the head is one
abbrev pub set_of_head : Head → CellShape → Option (List Text)
set_of_head (Serve labels) c = Some (labels_served labels c)
set_of_head h c = None

-- those of the redex
abbrev pub set_by : Split → CellShape → Option (List Text)
set_by (Stands place) c = None
set_by (Splits contexts redex) c = set_of_head redex.head c

-- the labels of the `serve` at which an activity stands
abbrev pub set_at : Activity → Option (List Text)
set_at a = set_by (split a.term) (cell a.store a.active)

-- the replay after so many steps
abbrev pub replayed_to : Tree → ListsShape → CountsShape → ℕ → Configuration
replayed_to program lists counts k = steps_from k (Some lists) (count_in counts) (start program)

-- somewhere in the replay the activity stands at a `serve` of these labels
abbrev pub StoodAt : Tree → ListsShape → CountsShape → Name → List Text → Type 0
StoodAt program lists counts n labels = (k : ℕ) × (a : Activity)
    × IsAt (replayed_to program lists counts k) n a × (set_at a ≡ Some labels)

-- a log notes a poll
abbrev pub has_poll : List ReceptionShape → Bool
has_poll [] = false
has_poll (Poll ∷ xs) = true
has_poll (From n ∷ xs) = has_poll xs

-- this activity polled in neither of two replays, and what each `serve` at which it stood in the first finds came in one
-- order in both
pub record IsServedAlike (program : Tree) (lists : ListsShape) (counts : CountsShape)
    (others : ListsShape) (other_counts : CountsShape) (n : Name) : Type 0 where
  pub unpolled : has_poll (log_of (replay program lists counts) n) ≡ false
  pub unpolled_too : has_poll (log_of (replay program others other_counts) n) ≡ false
  pub arrivals : (labels : List Text) → StoodAt program lists counts n labels
      → arrivals_within labels (replay program lists counts) n
      ≡ arrivals_within labels (replay program others other_counts) n

-- nobody polled, and what each `serve` at which the first replay stood finds came in one order in both
pub record AreServedAlike (program : Tree) (lists : ListsShape) (counts : CountsShape)
    (others : ListsShape) (other_counts : CountsShape) : Type 0 where
  pub unpolled : (n : Name) → has_poll (log_of (replay program lists counts) n) ≡ false
  pub unpolled_too : (n : Name) → has_poll (log_of (replay program others other_counts) n) ≡ false
  pub arrivals : (n : Name) (labels : List Text) → StoodAt program lists counts n labels
      → arrivals_within labels (replay program lists counts) n
      ≡ arrivals_within labels (replay program others other_counts) n
