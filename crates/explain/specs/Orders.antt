-- The entries of all logs, in the order in which a run makes them, as its notes tell.
use Rattle.std.specs.Prelude.{◌≡◌, ℕ, List, [], ◌∷◌, Option, Some, None, length, map}
use Rattle.std.specs.List.{filter, flat_map}
use Rattle.asp_model.specs.Names.{Name, Text, same_name}
use Rattle.asp_model.specs.Configuration.{ReceptionShape, From, Poll}
use Rattle.asp_model.specs.Term.{Tree}
use Rattle.asp_model.specs.Step.{ListsShape}
use Rattle.asp_model.specs.Replay.{CountsShape, Fits, log_in}
use Rattle.replay_parts.specs.Notes.{EventShape, NoteShape, Sent, Polled, replay_notes}

-- an entry: whose log, what it notes, and the label of the request
pub record EntryShape : Type 0 where
  pub to : Name
  pub noted : ReceptionShape
  pub label : Option Text

-- a request enters who sent it in the log of the receiver, and a poll enters itself in the own log
abbrev pub entered_by : Name → EventShape → List EntryShape
entered_by n (Sent to label future) = record { to = to; noted = From n; label = Some label } ∷ []
entered_by n Polled = record { to = n; noted = Poll; label = None } ∷ []
entered_by n x = []

abbrev pub entered : NoteShape → List EntryShape
entered x = entered_by x.by x.event

abbrev pub order_of : List NoteShape → List EntryShape
order_of xs = flat_map entered xs

-- those in the log of an activity
abbrev pub entries_of : Name → List EntryShape → List ReceptionShape
entries_of n es = map (λ e. e.noted) (filter (λ e. same_name e.to n) es)

-- how many of these entries stand in the log of an activity
abbrev pub place_after : List EntryShape → Name → ℕ
place_after es n = length (filter (λ e. same_name e.to n) es)

-- the order of a replay that fits has each log in its own order
abbrev pub OrdersAreLogs : Type 0
OrdersAreLogs = (program : Tree) (lists : ListsShape) (counts : CountsShape) → Fits program lists counts
    → (n : Name) → entries_of n (order_of (replay_notes program lists counts)) ≡ log_in lists n
