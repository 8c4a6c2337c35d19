-- What a run notes: what its steps ask of others and give to them, in the order of the steps.
use Rattle.std.specs.Prelude.{◌≡◌, ℕ, zero, suc, nat_lt, true, false, List, [], ◌∷◌, ◌++◌, Option, Some, None, map, slice_get, length, drop}
use Rattle.std.specs.FinMap.{find}
use Rattle.asp_model.specs.Names.{Name, FutureShape, Text, name_cmp}
use Rattle.asp_model.specs.Term.{Tree}
use Rattle.asp_model.specs.Parcel.{ParcelShape}
use Rattle.asp_model.specs.Configuration.{Activity, Configuration, From, Poll, ReceptionShape, RequestShape, label_of, start}
use Rattle.asp_model.specs.Contraction.{FaultShape, LineShape}
use Rattle.asp_model.specs.Intent as intents
use Rattle.asp_model.specs.Intent.{Acts, Effect, Intent, Rests, StatusShape}
use Rattle.asp_model.specs.Status.{status_of}
use Rattle.asp_model.specs.Step.{ListsShape, intent_in, step}
use Rattle.asp_model.specs.Replay.{CountsShape, count_in, least_step, total}
use Rattle.law_steps.specs.Reached.{IsThere}
use Rattle.law_steps.specs.Waking.{labels_wanted}

pub data EventShape : Type 0 where
  -- it serves a request that has one of these labels
  Served : (labels : List Text) → EventShape
  Made : (made : Name) → EventShape
  -- a request is sent, and received
  Sent : (to : Name) (label : Text) (future : FutureShape) → EventShape
  -- the future gets its value
  Answered : (future : FutureShape) → EventShape
  -- it asks what is pending
  Polled : EventShape
  Printed : (line : LineShape) → EventShape
  -- it stands at a `serve` that asks for these labels
  Standing : (labels : List Text) → EventShape
  -- it stands at a fault
  Faulted : (fault : FaultShape) → EventShape

-- who, after so many of its reductions, and what
pub record NoteShape : Type 0 where
  pub by : Name
  pub count : ℕ
  pub event : EventShape

-- One step

-- a service, where labels are asked for
abbrev pub served_by : List Text → List EventShape
served_by [] = []
served_by (l ∷ ls) = Served (l ∷ ls) ∷ []

-- the lines that an activity has more
abbrev pub printed_by : Activity → Activity → List EventShape
printed_by a b = map Printed (drop (length a.lines) b.lines)

abbrev pub made_by : Option (Name × Activity) → List EventShape
made_by None = []
made_by (Some x) = Made x.0 ∷ []

abbrev pub sent_by : Option (Name × RequestShape) → List EventShape
sent_by None = []
sent_by (Some x) = Sent x.0 (label_of x.1) x.1.future ∷ []

abbrev pub answered_by : Option (FutureShape × ParcelShape) → List EventShape
answered_by None = []
answered_by (Some x) = Answered x.0 ∷ []

abbrev pub polled_as : ReceptionShape → List EventShape
polled_as (From n) = []
polled_as Poll = Polled ∷ []

abbrev pub polled_by : Option (Name × ReceptionShape) → List EventShape
polled_by None = []
polled_by (Some x) = polled_as x.1

-- what an effect gives to others
abbrev pub given_by : Effect → List EventShape
given_by e = made_by e.made ++ (sent_by e.sent ++ (answered_by e.filled ++ polled_by e.logged))

abbrev pub noted_as : Name → ℕ → EventShape → NoteShape
noted_as n k x = record { by = n; count = k; event = x }

-- what an activity notes that intends this
abbrev pub notes_of : Name → Activity → Intent → List NoteShape
notes_of n a (Rests s) = []
notes_of n a (Acts e) =
    map (noted_as n a.reductions) (served_by (labels_wanted a) ++ (given_by e ++ printed_by a e.own))

-- A run

-- what the least-named step of these activities notes
abbrev pub least_notes : Option ListsShape → (Name → ℕ) → Configuration → List (Name × Activity) → List NoteShape
least_notes lists count c [] = []
least_notes lists count c (x ∷ xs) = elim (nat_lt x.1.reductions (count x.0)) [
  | false ↦ least_notes lists count c xs
  | true ↦ elim (step lists c x.0) [ None ↦ least_notes lists count c xs | Some d ↦ notes_of x.0 x.1 (intent_in c x.0) ]
]

-- what at most k least-named steps note, from a configuration on
abbrev pub notes_from : ℕ → Option ListsShape → (Name → ℕ) → Configuration → List NoteShape
notes_from zero lists count c = []
notes_from (suc k) lists count c = elim (least_step lists count c c.activities) [
  | None ↦ []
  | Some d ↦ least_notes lists count c c.activities ++ notes_from k lists count d
]

-- what a replay notes
abbrev pub replay_notes : Tree → ListsShape → CountsShape → List NoteShape
replay_notes program lists counts = notes_from (total counts) (Some lists) (count_in counts) (start program)

-- Its end

-- where an activity stands
abbrev pub standing : Name → Activity → NoteShape
standing n a = noted_as n a.reductions (Standing (labels_wanted a))

-- where labels are asked for
abbrev pub places_by : Name → Activity → List Text → List NoteShape
places_by n a [] = []
places_by n a (l ∷ ls) = standing n a ∷ []

-- where it stands at a fault
abbrev pub faulted_by : Name → Activity → StatusShape → List NoteShape
faulted_by n a (intents.Faulted f) = noted_as n a.reductions (Faulted f) ∷ []
faulted_by n a s = []

-- the notes of where the activity of a name stands, if it asks for labels or has stopped at a fault
abbrev pub place_of : Configuration → Name → List NoteShape
place_of c n = elim (find name_cmp n c.activities) [
  | None ↦ []
  | Some a ↦ places_by n a (labels_wanted a) ++ faulted_by n a (status_of c n)
]

-- of these, one after the other
abbrev pub places_in : Configuration → List Name → List NoteShape
places_in c [] = []
places_in c (n ∷ ns) = place_of c n ++ places_in c ns

-- each activity has one of these names
abbrev pub HasNames : Configuration → List Name → Type 0
HasNames c ns = (n : Name) → IsThere c n → (k : ℕ) × (slice_get ns k ≡ Some n)
