-- The order of entries is what a listener is told.
use Rattle.std.specs.Prelude.{◌≡◌, List, [], ◌∷◌, ◌++◌, Option, Some, None, map}
use Rattle.std.specs.FinMap.{find}
use Rattle.std.proofs.Common.{refl, sym, ap, subst, ◌∙◌}
use Rattle.std.proofs.lemmas.List.{append-nil}
use Rattle.std.proofs.lemmas.Grind.{flat_map-append}
use Rattle.asp_model.specs.Names.{Name, Text, name_cmp}
use Rattle.asp_model.specs.Configuration.{Activity, Configuration}
use Rattle.asp_model.specs.Intent as intents
use Rattle.asp_model.specs.Intent.{StatusShape}
use Rattle.asp_model.specs.Status.{status_of}
use Rattle.law_steps.specs.Waking.{labels_wanted}
use Rattle.replay_parts.specs.Notes.{EventShape, NoteShape, Served, Made, Sent, Answered, Polled, Printed, Standing, Faulted, faulted_by, noted_as, place_of, places_by, places_in}
use Rattle.replay_parts.specs.declared.notes.Event.{Event}
use Rattle.replay_parts.specs.declared.notes.Event.TheVariants as event
use Rattle.replay_parts.specs.declared.notes.Note.{Note}
use Rattle.replay_parts.specs.Listening.{IsDeafToLines, IsEvent, IsNote}
use Rattle.explain.specs.declared.differences.order.Order.{Order}
use Rattle.explain.specs.Orders.{EntryShape, entered, entered_by, order_of}
use Rattle.explain.specs.OrderKept.{Tells, entry_shape, poll_of, request_of}

-- what an event enters, as it is told
abbrev pub entered_told : Name → Event → List EntryShape
entered_told n (event.Sent to label future) = request_of to.now n label.now.text ∷ []
entered_told n event.Polled = poll_of n ∷ []
entered_told n (event.Served labels) = []
entered_told n (event.Made made) = []
entered_told n (event.Answered future) = []
entered_told n (event.Printed line) = []
entered_told n (event.Standing labels) = []
entered_told n (event.Faulted fault) = []

as_entered : (n : Name) (e : Event) (x : EventShape) → IsEvent e x → entered_told n e ≡ entered_by n x
as_entered n (event.Served labels) (Served ls) h = refl
as_entered n (event.Served labels) (Made m) h = absurd h
as_entered n (event.Served labels) (Sent m l f) h = absurd h
as_entered n (event.Served labels) (Answered g) h = absurd h
as_entered n (event.Served labels) Polled h = absurd h
as_entered n (event.Served labels) (Printed l) h = absurd h
as_entered n (event.Served labels) (Standing ls) h = absurd h
as_entered n (event.Served labels) (Faulted g) h = absurd h
as_entered n (event.Made made) (Served ls) h = absurd h
as_entered n (event.Made made) (Made m) h = refl
as_entered n (event.Made made) (Sent m l f) h = absurd h
as_entered n (event.Made made) (Answered g) h = absurd h
as_entered n (event.Made made) Polled h = absurd h
as_entered n (event.Made made) (Printed l) h = absurd h
as_entered n (event.Made made) (Standing ls) h = absurd h
as_entered n (event.Made made) (Faulted g) h = absurd h
as_entered n (event.Sent to label future) (Served ls) h = absurd h
as_entered n (event.Sent to label future) (Made m) h = absurd h
as_entered n (event.Sent to label future) (Sent m l f) h = λ i. request_of (h.0 i) n (h.1 i) ∷ []
as_entered n (event.Sent to label future) (Answered g) h = absurd h
as_entered n (event.Sent to label future) Polled h = absurd h
as_entered n (event.Sent to label future) (Printed l) h = absurd h
as_entered n (event.Sent to label future) (Standing ls) h = absurd h
as_entered n (event.Sent to label future) (Faulted g) h = absurd h
as_entered n (event.Answered future) (Served ls) h = absurd h
as_entered n (event.Answered future) (Made m) h = absurd h
as_entered n (event.Answered future) (Sent m l f) h = absurd h
as_entered n (event.Answered future) (Answered g) h = refl
as_entered n (event.Answered future) Polled h = absurd h
as_entered n (event.Answered future) (Printed l) h = absurd h
as_entered n (event.Answered future) (Standing ls) h = absurd h
as_entered n (event.Answered future) (Faulted g) h = absurd h
as_entered n event.Polled (Served ls) h = absurd h
as_entered n event.Polled (Made m) h = absurd h
as_entered n event.Polled (Sent m l f) h = absurd h
as_entered n event.Polled (Answered g) h = absurd h
as_entered n event.Polled Polled h = refl
as_entered n event.Polled (Printed l) h = absurd h
as_entered n event.Polled (Standing ls) h = absurd h
as_entered n event.Polled (Faulted g) h = absurd h
as_entered n (event.Printed line) (Served ls) h = absurd h
as_entered n (event.Printed line) (Made m) h = absurd h
as_entered n (event.Printed line) (Sent m l f) h = absurd h
as_entered n (event.Printed line) (Answered g) h = absurd h
as_entered n (event.Printed line) Polled h = absurd h
as_entered n (event.Printed line) (Printed l) h = refl
as_entered n (event.Printed line) (Standing ls) h = absurd h
as_entered n (event.Printed line) (Faulted g) h = absurd h
as_entered n (event.Standing labels) (Served ls) h = absurd h
as_entered n (event.Standing labels) (Made m) h = absurd h
as_entered n (event.Standing labels) (Sent m l f) h = absurd h
as_entered n (event.Standing labels) (Answered g) h = absurd h
as_entered n (event.Standing labels) Polled h = absurd h
as_entered n (event.Standing labels) (Printed l) h = absurd h
as_entered n (event.Standing labels) (Standing ls) h = refl
as_entered n (event.Standing labels) (Faulted g) h = absurd h
as_entered n (event.Faulted fault) (Served ls) h = absurd h
as_entered n (event.Faulted fault) (Made m) h = absurd h
as_entered n (event.Faulted fault) (Sent m l f) h = absurd h
as_entered n (event.Faulted fault) (Answered g) h = absurd h
as_entered n (event.Faulted fault) Polled h = absurd h
as_entered n (event.Faulted fault) (Printed l) h = absurd h
as_entered n (event.Faulted fault) (Standing ls) h = absurd h
as_entered n (event.Faulted fault) (Faulted g) h = refl

order_more : (xs : List NoteShape) (x : NoteShape) → order_of (xs ++ x ∷ []) ≡ order_of xs ++ entered x
order_more xs x = flat_map-append entered xs (x ∷ []) ∙ ap (λ l. order_of xs ++ l) (append-nil (entered x))

-- one note more is told
pub note_kept : (old new : Order) (told : Note) (x : NoteShape) (xs : List NoteShape) (e : Event) → IsNote told x → told.event ≡ e → Tells old xs
    → map entry_shape new.entries.items ≡ map entry_shape old.entries.items ++ entered_told told.by.now e → Tells new (xs ++ x ∷ [])
note_kept old new told x xs e n is keeps more =
    more
    ∙ (λ i. keeps i ++ entered_told (n.by i) e)
    ∙ ap (λ l. order_of xs ++ l) (as_entered x.by e x.event (subst (λ z. IsEvent z x.event) is n.event))
    ∙ sym (order_more xs x)

-- lines enter nothing
pub deaf_to_lines : (o : Order) → IsDeafToLines (Tells o)
deaf_to_lines o xs n k l keeps = keeps ∙ sym (order_more xs (noted_as n k (Printed l)) ∙ append-nil (order_of xs))

-- where activities stand enters nothing

stood_enters : (n : Name) (a : Activity) (ls : List Text) → order_of (places_by n a ls) ≡ []
stood_enters n a [] = refl
stood_enters n a (l ∷ ls) = refl

faulted_enters : (n : Name) (a : Activity) (s : StatusShape) → order_of (faulted_by n a s) ≡ []
faulted_enters n a (intents.Faulted g) = refl
faulted_enters n a intents.Done = refl
faulted_enters n a intents.Serving = refl
faulted_enters n a intents.Running = refl
faulted_enters n a (intents.Awaits g) = refl

place_enters : (n : Name) (o : Option Activity) (of : Activity → List Text) (s : StatusShape) → order_of (elim o [ None ↦ [] | Some a ↦ places_by n a (of a) ++ faulted_by n a s ]) ≡ []
place_enters n None of s = refl
place_enters n (Some a) of s = flat_map-append entered (places_by n a (of a)) (faulted_by n a s) ∙ (λ i. stood_enters n a (of a) i ++ faulted_enters n a s i)

places_enter : (c : Configuration) (ns : List Name) → order_of (places_in c ns) ≡ []
places_enter c [] = refl
places_enter c (n ∷ ns) = flat_map-append entered (place_of c n) (places_in c ns) ∙ (λ i. place_enters n (find name_cmp n c.activities) labels_wanted (status_of c n) i ++ places_enter c ns i)

pub order_at_end : (o : Order) (xs : List NoteShape) (c : Configuration) (ns : List Name) → Tells o (xs ++ places_in c ns) → Tells o xs
order_at_end o xs c ns keeps =
    keeps ∙ flat_map-append entered xs (places_in c ns) ∙ ap (λ l. order_of xs ++ l) (places_enter c ns) ∙ append-nil (order_of xs)
