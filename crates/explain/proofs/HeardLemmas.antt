-- A listener keeps what it is told.
use Rattle.std.specs.Prelude.{◌≡◌, ℕ, List, [], ◌∷◌, ◌++◌, Option, Some, None, OnOk, Result, Ok, Err, option_map}
use Rattle.std.proofs.Common.{refl, sym, ap, subst, ◌∙◌}
use Rattle.std.proofs.lemmas.List.{append-nil, append_assoc}
use Rattle.asp_model.specs.Names.{Name}
use Rattle.replay_parts.specs.Notes.{EventShape, NoteShape, Served, Made, Sent, Answered, Polled, Printed, Standing, Faulted}
use Rattle.replay_parts.specs.declared.notes.Event.{Event}
use Rattle.replay_parts.specs.declared.notes.Event.TheVariants as event
use Rattle.replay_parts.specs.declared.notes.Note.{Note}
use Rattle.replay_parts.specs.Listening.{IsEvent, IsNote}
use Rattle.explain.specs.declared.events.listener.Listener.{Listener}
use Rattle.explain.specs.declared.events.page.Wish.{Wish}
use Rattle.run_waits.specs.Books.{BookShape, IsNoted, KeepsBooks, book_at, book_in, owner}
use Rattle.explain.specs.Events.{WhatShape, Creates, Sends, Answers, Prints, Fails, events_after, events_by, events_from, events_in, what_of}
use Rattle.run_waits.proofs.BookLemmas.{noted_kept}
use Rattle.explain.specs.EventsHeard.{IsHeard, IsPage, Tells, event_told, wish_event, wish_note}

-- an event tells what it is told as
pub as_told : (e : Event) (x : EventShape) → IsEvent e x → (b : BookShape) → what_of b (event_told e) ≡ what_of b x
as_told (event.Served labels) (Served ls) h b = refl
as_told (event.Served labels) (Made n) h b = absurd h
as_told (event.Served labels) (Sent n l f) h b = absurd h
as_told (event.Served labels) (Answered g) h b = absurd h
as_told (event.Served labels) Polled h b = absurd h
as_told (event.Served labels) (Printed l) h b = absurd h
as_told (event.Served labels) (Standing ls) h b = absurd h
as_told (event.Served labels) (Faulted g) h b = absurd h
as_told (event.Made made) (Served ls) h b = absurd h
as_told (event.Made made) (Made n) h b = ap (λ m. Some (Creates m)) h
as_told (event.Made made) (Sent n l f) h b = absurd h
as_told (event.Made made) (Answered g) h b = absurd h
as_told (event.Made made) Polled h b = absurd h
as_told (event.Made made) (Printed l) h b = absurd h
as_told (event.Made made) (Standing ls) h b = absurd h
as_told (event.Made made) (Faulted g) h b = absurd h
as_told (event.Sent to label future) (Served ls) h b = absurd h
as_told (event.Sent to label future) (Made n) h b = absurd h
as_told (event.Sent to label future) (Sent n l f) h b = λ i. Some (Sends (h.0 i) (h.1 i, h.2 i))
as_told (event.Sent to label future) (Answered g) h b = absurd h
as_told (event.Sent to label future) Polled h b = absurd h
as_told (event.Sent to label future) (Printed l) h b = absurd h
as_told (event.Sent to label future) (Standing ls) h b = absurd h
as_told (event.Sent to label future) (Faulted g) h b = absurd h
as_told (event.Answered future) (Served ls) h b = absurd h
as_told (event.Answered future) (Made n) h b = absurd h
as_told (event.Answered future) (Sent n l f) h b = absurd h
as_told (event.Answered future) (Answered g) h b = ap (λ z. Some (Answers (option_map (λ q. q.0) b.answered) z)) h
as_told (event.Answered future) Polled h b = absurd h
as_told (event.Answered future) (Printed l) h b = absurd h
as_told (event.Answered future) (Standing ls) h b = absurd h
as_told (event.Answered future) (Faulted g) h b = absurd h
as_told event.Polled (Served ls) h b = absurd h
as_told event.Polled (Made n) h b = absurd h
as_told event.Polled (Sent n l f) h b = absurd h
as_told event.Polled (Answered g) h b = absurd h
as_told event.Polled Polled h b = refl
as_told event.Polled (Printed l) h b = absurd h
as_told event.Polled (Standing ls) h b = absurd h
as_told event.Polled (Faulted g) h b = absurd h
as_told (event.Printed line) (Served ls) h b = absurd h
as_told (event.Printed line) (Made n) h b = absurd h
as_told (event.Printed line) (Sent n l f) h b = absurd h
as_told (event.Printed line) (Answered g) h b = absurd h
as_told (event.Printed line) Polled h b = absurd h
as_told (event.Printed line) (Printed l) h b = ap (λ z. Some (Prints z)) h
as_told (event.Printed line) (Standing ls) h b = absurd h
as_told (event.Printed line) (Faulted g) h b = absurd h
as_told (event.Standing labels) (Served ls) h b = absurd h
as_told (event.Standing labels) (Made n) h b = absurd h
as_told (event.Standing labels) (Sent n l f) h b = absurd h
as_told (event.Standing labels) (Answered g) h b = absurd h
as_told (event.Standing labels) Polled h b = absurd h
as_told (event.Standing labels) (Printed l) h b = absurd h
as_told (event.Standing labels) (Standing ls) h b = refl
as_told (event.Standing labels) (Faulted g) h b = absurd h
as_told (event.Faulted fault) (Served ls) h b = absurd h
as_told (event.Faulted fault) (Made n) h b = absurd h
as_told (event.Faulted fault) (Sent n l f) h b = absurd h
as_told (event.Faulted fault) (Answered g) h b = absurd h
as_told (event.Faulted fault) Polled h b = absurd h
as_told (event.Faulted fault) (Printed l) h b = absurd h
as_told (event.Faulted fault) (Standing ls) h b = absurd h
as_told (event.Faulted fault) (Faulted g) h b = ap (λ z. Some (Fails z)) h

-- the events of notes with one more
events_snoc : (seen xs : List NoteShape) (x : NoteShape) → events_from seen (xs ++ x ∷ []) ≡ events_from seen xs ++ events_after (seen ++ xs) x
events_snoc seen [] x = append-nil (events_after seen x) ∙ ap (λ s. events_after s x) (sym (append-nil seen))
events_snoc seen (y ∷ xs) x =
    ap (λ l. events_after seen y ++ l) (events_snoc (seen ++ y ∷ []) xs x)
    ∙ sym (append_assoc (events_after seen y) (events_from (seen ++ y ∷ []) xs) (events_after ((seen ++ y ∷ []) ++ xs) x))
    ∙ ap (λ s. (events_after seen y ++ events_from (seen ++ y ∷ []) xs) ++ events_after s x) (append_assoc seen (y ∷ []) xs)

pub events_more : (xs : List NoteShape) (x : NoteShape) → events_in (xs ++ x ∷ []) ≡ events_in xs ++ events_after xs x
events_more xs x = events_snoc [] xs x

-- what is heard with one note more
pub tells_if : {A E : Type 0} (r : Result A E) (old new : Listener) (x : NoteShape) (ys : List NoteShape) → Tells old ys
    → ((y : NoteShape) (xs : List NoteShape) → IsHeard old y xs → OnOk r (IsHeard new y (xs ++ x ∷ []))) → OnOk r (Tells new (ys ++ x ∷ []))
tells_if r old new x [] h more = absurd h
tells_if r old new x (y ∷ xs) h more = more y xs h

pub ok_both : {A E : Type 0} (P Q : Type 0) (r : Result A E) → OnOk r P → OnOk r Q → OnOk r (P × Q)
ok_both P Q (Ok a) p q = (p, q)
ok_both P Q (Err e) p q = tt

pub tells_more : (old new : Listener) (x : NoteShape) (ys : List NoteShape) → Tells old ys
    → ((y : NoteShape) (xs : List NoteShape) → IsHeard old y xs → IsHeard new y (xs ++ x ∷ [])) → Tells new (ys ++ x ∷ [])
tells_more old new x [] h more = absurd h
tells_more old new x (y ∷ xs) h more = more y xs h

-- a note tells what is on the page more
pub heard_more : (old new : Listener) (x y : NoteShape) (xs : List NoteShape) (w : Option WhatShape)
    → IsHeard old y xs → w ≡ what_of (book_in (xs ++ x ∷ []) x.by) x.event → new.page.wish ≡ old.page.wish
    → IsPage new.page (events_in xs ++ events_by x w) → KeepsBooks new.books (xs ++ x ∷ []) → IsHeard new y (xs ++ x ∷ [])
heard_more old new x y xs w h what wish page books = record {
  wish = h.wish ∙ ap wish_note (sym wish);
  page = subst (IsPage new.page) (ap (λ o. events_in xs ++ events_by x o) what ∙ sym (events_more xs x)) page;
  books = books;
}

-- one note more is heard
module _ (old new : Listener) (told : Note) (x : NoteShape) (n : IsNote told x) (y : NoteShape) (xs : List NoteShape) (h : IsHeard old y xs)
    (noted : IsNoted (owner x.by x.event) x.event old.books new.books) (book : BookShape) (at : book ≡ book_at new.books told.by.now)
    (o : Option WhatShape) (is : o ≡ what_of book (event_told told.event)) where
  abbrev all : List NoteShape
  all = xs ++ x ∷ []

  kept : KeepsBooks new.books all
  kept = noted_kept old.books new.books xs x h.books noted

  what : o ≡ what_of (book_in all x.by) x.event
  what =
      is
      ∙ ap (λ b. what_of b (event_told told.event)) (at ∙ ap (book_at new.books) n.by ∙ kept x.by)
      ∙ as_told told.event x.event n.event (book_in all x.by)

  pub heard_note : new.page.wish ≡ old.page.wish → IsPage new.page (events_in xs ++ events_by x o) → IsHeard new y all
  heard_note wish page = heard_more old new x y xs o h what wish page kept

-- what is asked for is told by its note

abbrev wish_in : NoteShape → Wish
wish_in x = elim x.event [
  | Sent n l f ↦ record { activity = Some n; skip = x.count; most = f.index }
  | Answered f ↦ record { activity = None; skip = x.count; most = f.index }
  | Served ls ↦ record { activity = None; skip = 0; most = 0 }
  | Made n ↦ record { activity = None; skip = 0; most = 0 }
  | Polled ↦ record { activity = None; skip = 0; most = 0 }
  | Printed l ↦ record { activity = None; skip = 0; most = 0 }
  | Standing ls ↦ record { activity = None; skip = 0; most = 0 }
  | Faulted f ↦ record { activity = None; skip = 0; most = 0 }
]

of_parts : (o : Option Name) (skip most : ℕ) → wish_in (record { by = []; count = skip; event = wish_event o most }) ≡ record { activity = o; skip = skip; most = most }
of_parts None skip most = refl
of_parts (Some n) skip most = refl

wish_told : (w : Wish) → wish_in (wish_note w) ≡ w
wish_told w = of_parts w.activity w.skip w.most

pub same_wish : (w v : Wish) → wish_note w ≡ wish_note v → w ≡ v
same_wish w v e = sym (wish_told w) ∙ ap wish_in e ∙ wish_told v
