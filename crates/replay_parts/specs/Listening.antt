-- What a listener is told.
use Rattle.std.specs.Prelude.{◌≡◌, ℕ, List, [], ◌∷◌, ◌++◌, Option, Some, None, length}
use Rattle.asp_model.specs.Names.{Name}
use Rattle.asp_model.specs.Contraction.{LineShape}
use Rattle.asp_model.specs.Configuration.{Activity, Configuration}
use Rattle.asp_model.specs.Shapes.{fault_shape, future_shape, line_shape}
use Rattle.serve_rules.specs.Labels.{HaveSame}
use Rattle.serve_rules.specs.Wanted.{wanted_labels}
use Rattle.replay_parts.specs.declared.notes.Event.{Event}
use Rattle.replay_parts.specs.declared.notes.Event.TheVariants as event
use Rattle.replay_parts.specs.declared.notes.Note.{Note}
use Rattle.replay_parts.specs.declared.telling.Known.{Known}
use Rattle.replay_parts.specs.Notes.{EventShape, HasNames, NoteShape, noted_as, places_in, Answered, Faulted, Made, Polled, Printed, Sent, Served, Standing}

-- an event is told; its labels as a set
abbrev pub IsEvent : Event → EventShape → Type 0
IsEvent (event.Served wanted) (Served ls) = HaveSame (wanted_labels wanted) ls
IsEvent (event.Made made) (Made n) = made.now ≡ n
IsEvent (event.Sent to label future) (Sent n l f) =
    (to.now ≡ n) × (label.now.text ≡ l) × (future_shape future.now ≡ f)
IsEvent (event.Answered future) (Answered f) = future_shape future.now ≡ f
IsEvent event.Polled Polled = Unit {0}
IsEvent (event.Printed line) (Printed l) = line_shape line.now ≡ l
IsEvent (event.Standing wanted) (Standing ls) = HaveSame (wanted_labels wanted) ls
IsEvent (event.Faulted fault) (Faulted f) = fault_shape fault ≡ f
IsEvent e x = ⊥

-- a note is told
pub record IsNote (told : Note) (x : NoteShape) : Type 0 where
  pub by : told.by.now ≡ x.by
  pub count : told.count ≡ x.count
  pub event : IsEvent told.event x.event

-- what is known of an activity before its step
pub record IsBefore (b : Known) (a : Activity) : Type 0 where
  pub count : b.count ≡ a.reductions
  pub lines : b.lines ≡ length a.lines

-- a listener that does not listen tells of anything
abbrev pub IsDeaf : (List NoteShape → Type 0) → Type 0
IsDeaf tells = (xs ys : List NoteShape) → tells xs → tells ys

-- a listener to whom lines tell nothing
abbrev pub IsDeafToLines : (List NoteShape → Type 0) → Type 0
IsDeafToLines tells = (xs : List NoteShape) (n : Name) (k : ℕ) (l : LineShape)
    → tells xs → tells (xs ++ noted_as n k (Printed l) ∷ [])

-- it is known, or nobody listens
abbrev pub IsKnownBefore : (List NoteShape → Type 0) → Activity → Option Known → Type 0
IsKnownBefore tells a None = IsDeaf tells
IsKnownBefore tells a (Some b) = IsBefore b a

-- some notes more were told: where the activities stand, in some order of their names
abbrev pub AreToldPlaces : (List NoteShape → Type 0) → List NoteShape → Configuration → Type 0
AreToldPlaces tells xs c = (ns : List Name) × HasNames c ns × tells (xs ++ places_in c ns)
