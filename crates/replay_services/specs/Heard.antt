-- What the notes of a run tell of one activity: which requests came, what its services asked for, and whether it
-- polled.
use Rattle.std.specs.Prelude.{◌≡◌, ◌⊎◌, ◌&&◌, Bool, true, false, cond, List, [], ◌∷◌, ◌++◌, map}
use Rattle.std.specs.List.{Contains, flat_map, list_any}
use Rattle.asp_model.specs.Names.{Name, Text, same_name}
use Rattle.asp_model.specs.Term.{Tree}
use Rattle.asp_model.specs.Configuration.{log_of, requests_of}
use Rattle.asp_model.specs.Services.{ArrivalShape}
use Rattle.asp_model.specs.Step.{ListsShape}
use Rattle.asp_model.specs.Replay.{CountsShape, Fits, replay}
use Rattle.law_services.specs.Services.{StoodAt, arrival_of, has_poll}
use Rattle.replay_parts.specs.Notes.{EventShape, HasNames, NoteShape, Served, Sent, Polled, Standing, places_in, replay_notes}

-- a request that somebody sends to this activity
abbrev pub came_as : (to by : Name) → EventShape → List ArrivalShape
came_as n by (Sent to label future) = cond (same_name n to) (record { sender = by; label = label } ∷ []) []
came_as n by x = []

-- the labels of a service, or of a `serve` at which one stands
abbrev pub asked_as : EventShape → List (List Text)
asked_as (Served labels) = labels ∷ []
asked_as (Standing labels) = labels ∷ []
asked_as x = []

abbrev pub is_poll : EventShape → Bool
is_poll Polled = true
is_poll x = false

abbrev pub came_in : Name → NoteShape → List ArrivalShape
came_in n x = came_as n x.by x.event

abbrev pub asked_in : Name → NoteShape → List (List Text)
asked_in n x = cond (same_name n x.by) (asked_as x.event) []

abbrev pub polled_in : Name → NoteShape → Bool
polled_in n x = same_name n x.by && is_poll x.event

-- of all notes

abbrev pub came_to : Name → List NoteShape → List ArrivalShape
came_to n xs = flat_map (came_in n) xs

abbrev pub asked_by : Name → List NoteShape → List (List Text)
asked_by n xs = flat_map (asked_in n) xs

abbrev pub has_polled : Name → List NoteShape → Bool
has_polled n xs = list_any (polled_in n) xs

-- what a list of notes tells is what the services of the replay could take
pub record TellsServices (program : Tree) (lists : ListsShape) (counts : CountsShape) (xs : List NoteShape) : Type 0 where
  pub came : (n : Name) → came_to n xs ≡ map arrival_of (requests_of (replay program lists counts) n)
  pub polled : (n : Name) → has_polled n xs ≡ has_poll (log_of (replay program lists counts) n)
  pub stood : (n : Name) (labels : List Text)
      → Contains (asked_by n xs) labels → (labels ≡ []) ⊎ StoodAt program lists counts n labels
  pub sets : (n : Name) (labels : List Text)
      → StoodAt program lists counts n labels → (labels ≡ []) ⊎ Contains (asked_by n xs) labels

-- the notes of a replay that fits do so, with those of where its activities stand at the end
abbrev pub NotesTell : Type 0
NotesTell = (program : Tree) (lists : ListsShape) (counts : CountsShape) (ns : List Name)
    → Fits program lists counts → HasNames (replay program lists counts) ns
    → TellsServices program lists counts (replay_notes program lists counts ++ places_in (replay program lists counts) ns)
