-- What each activity has of the requests that came to it, as the notes of a run tell.
use Rattle.std.specs.Prelude.{◌≡◌, ℕ, suc, ◌-◌, Bool, true, false, List, [], ◌∷◌, ◌++◌, Option, Some, None, length, map, option_map, slice_get, take, drop}
use Rattle.std.specs.BTreeMap.{get}
use Rattle.asp_model.specs.Names.{Name, FutureShape, Text, name_cmp, same_name}
use Rattle.asp_model.specs.Term.{has_text}
use Rattle.asp_model.specs.Shapes.{future_shape}
use Rattle.replay_parts.specs.Notes.{EventShape, NoteShape, Answered, Sent, Served}
use Rattle.run_waits.specs.declared.book.Asked.{Asked}
use Rattle.run_waits.specs.declared.book.Book.{Book}
use Rattle.run_waits.specs.declared.books.Books.{Books}

-- a request: its label, and its future, which names who asks
abbrev pub Request : Type 0
Request = Text × FutureShape

-- the requests of an activity that are not served, oldest first, those that it serves, newest last, and the one that
-- it answered last
pub record BookShape : Type 0 where
  pub pending : List Request
  pub serving : List Request
  pub answered : Option Request

abbrev pub blank : BookShape
blank = record { pending = []; serving = []; answered = None }

-- By events

-- the oldest that has one of these labels
abbrev pub oldest : List Text → List Request → Option Request
oldest ls [] = None
oldest ls (q ∷ qs) = elim (has_text q.0 ls) [ true ↦ Some q | false ↦ oldest ls qs ]

-- all but that
abbrev pub others : List Text → List Request → List Request
others ls [] = []
others ls (q ∷ qs) = elim (has_text q.0 ls) [ true ↦ qs | false ↦ q ∷ others ls qs ]

-- that stands at this place
abbrev pub IsOldestAt : List Text → List Request → ℕ → Type 0
IsOldestAt ls qs k = (oldest ls qs ≡ slice_get qs k) × (others ls qs ≡ take k qs ++ drop (suc k) qs)

-- none has one of the labels
abbrev pub HasNone : List Text → List Request → Type 0
HasNone ls qs = (oldest ls qs ≡ None) × (others ls qs ≡ qs)

abbrev pub with_newest : List Request → Option Request → List Request
with_newest qs None = qs
with_newest qs (Some q) = qs ++ q ∷ []

abbrev pub newest : List Request → Option Request
newest qs = slice_get qs (length qs - 1)

abbrev pub but_newest : List Request → List Request
but_newest qs = take (length qs - 1) qs

-- a request comes
abbrev pub book_received : Text → FutureShape → BookShape → BookShape
book_received l f b = record b { pending = b.pending ++ (l, f) ∷ [] }

-- the oldest with one of the labels is served
abbrev pub book_served : List Text → BookShape → BookShape
book_served ls b =
    record b { pending = others ls b.pending; serving = with_newest b.serving (oldest ls b.pending) }

-- the one at a place is served
abbrev pub book_taken : ℕ → BookShape → BookShape
book_taken k b = record b {
  pending = take k b.pending ++ drop (suc k) b.pending;
  serving = with_newest b.serving (slice_get b.pending k);
}

-- the newest service ends with its answer
abbrev pub book_answered : BookShape → BookShape
book_answered b = record b { serving = but_newest b.serving; answered = newest b.serving }

abbrev pub book_by : EventShape → BookShape → BookShape
book_by (Sent to l f) b = book_received l f b
book_by (Served ls) b = book_served ls b
book_by (Answered f) b = book_answered b
book_by e b = b

-- whose book tells of an event: a request is told of by who receives it
abbrev pub owner : Name → EventShape → Name
owner by (Sent to l f) = to
owner by e = by

-- In notes

abbrev pub book_after : Name → BookShape → NoteShape → BookShape
book_after n b x = elim (same_name (owner x.by x.event) n) [ true ↦ book_by x.event b | false ↦ b ]

abbrev pub book_from : Name → BookShape → List NoteShape → BookShape
book_from n b [] = b
book_from n b (x ∷ xs) = book_from n (book_after n b x) xs

-- the book of an activity, as all notes tell
abbrev pub book_in : List NoteShape → Name → BookShape
book_in xs n = book_from n blank xs

-- In a listener

abbrev pub request_of : Asked → Request
request_of a = (a.label.text, future_shape a.future)

abbrev pub book_of : Book → BookShape
book_of b = record {
  pending = map request_of b.pending.items;
  serving = map request_of b.serving.items;
  answered = option_map request_of b.answered;
}

abbrev pub or_blank : Option Book → BookShape
or_blank None = blank
or_blank (Some b) = book_of b

abbrev pub book_at : Books → Name → BookShape
book_at r n = or_blank (get name_cmp r.books n)

-- it keeps what the notes tell
abbrev pub KeepsBooks : Books → List NoteShape → Type 0
KeepsBooks r xs = (n : Name) → book_at r n ≡ book_in xs n

-- one note more is told of
abbrev pub IsNoted : Name → EventShape → Books → Books → Type 0
IsNoted m e old new = (n : Name) → book_at new n ≡ elim (same_name m n) [ true ↦ book_by e (book_at old n) | false ↦ book_at old n ]
