-- Books by events, and in lists of notes.
use Rattle.std.proofs.Common.{◌≡◌, ◌<◌, ◌≤◌, ◌-◌, ◌+◌, ℕ, zero, suc, Bool, true, false, cond, List, [], ◌∷◌, ◌++◌, Option, Some, None, IsSome, ◌↔◌, option_to_list, length, map, option_map, take, drop, refl, sym, ap, subst, ◌∙◌, append_assoc, arith}
use Rattle.std.specs.BTreeMap.{BTreeMap, WritesThrough, get, is_at}
use Rattle.std.proofs.lemmas.List.{append-nil, drop-map, length-append, map-append, take-map}
use Rattle.std.proofs.lemmas.Option.{slice_get-map}
use Rattle.std.proofs.Math.Seq.{take-append_seam}
use Rattle.asp_model.specs.Order.{same_name_same}
use Rattle.std.specs.List.{slice_get}
use Rattle.std.specs.FinMap.{find}
use Rattle.law_chases.proofs.FutureLemmas.{no_some, some_is}
use Rattle.asp_model.specs.Names.{Name, Text, name_cmp, same_name}
use Rattle.asp_model.specs.Term.{has_text}
use Rattle.asp_model.specs.Configuration.{Activity, Configuration}
use Rattle.asp_model.specs.Intent as intents
use Rattle.asp_model.specs.Intent.{StatusShape}
use Rattle.asp_model.specs.Status.{status_of}
use Rattle.law_steps.specs.Waking.{labels_wanted}
use Rattle.std.specs.Borrow.{Bor}
use Rattle.asp_model.specs.declared.name.FutureName.{FutureName}
use Rattle.asp_model.specs.declared.word.Label.{Label}
use Rattle.asp_model.specs.Shapes.{future_shape}
use Rattle.serve_rules.specs.Labels.{HaveSame}
use Rattle.serve_rules.specs.Wanted.{wanted_labels}
use Rattle.serve_rules.specs.declared.wanted.Wanted.{Wanted}
use Rattle.replay_parts.specs.declared.notes.Event.{Event}
use Rattle.replay_parts.specs.declared.notes.Event.TheVariants as event
use Rattle.replay_parts.specs.Listening.{IsDeafToLines, IsEvent}
use Rattle.replay_parts.specs.Notes.{Answered, EventShape, Faulted, Made, NoteShape, Polled, Printed, Sent, Served, Standing, faulted_by, noted_as, place_of, places_by, places_in}
use Rattle.run_waits.specs.declared.book.Asked.{Asked}
use Rattle.run_waits.specs.declared.book.Book.{Book}
use Rattle.run_waits.specs.declared.books.Books.{Books}
use Rattle.run_waits.specs.Books.{BookShape, HasNone, IsNoted, IsOldestAt, KeepsBooks, Request, blank, book_after, book_answered, book_at, book_by, book_from, book_in, book_of, book_received, book_served, book_taken, but_newest, newest, oldest, or_blank, others, owner, request_of, with_newest}

-- The oldest of a list

-- the first of these are none of which a label is asked for
pub record Passed (ls : List Text) (qs : List Request) (k : ℕ) : Type 0 where
  pub same : oldest ls qs ≡ oldest ls (drop k qs)
  pub rest : others ls qs ≡ take k qs ++ others ls (drop k qs)

pub passed_none : (ls : List Text) (qs : List Request) → Passed ls qs 0
passed_none ls qs = record { same = refl; rest = refl }

drop_at : {X : Type 0} (qs : List X) (k : ℕ) (q : X) → slice_get qs k ≡ Some q → drop k qs ≡ q ∷ drop (suc k) qs
drop_at [] k q e = no_some e
drop_at (x ∷ qs) zero q e = ap (λ z. z ∷ qs) (some_is e)
drop_at (x ∷ qs) (suc k) q e = drop_at qs k q e

take_at : {X : Type 0} (qs : List X) (k : ℕ) (q : X) → slice_get qs k ≡ Some q → take (suc k) qs ≡ take k qs ++ q ∷ []
take_at [] k q e = no_some e
take_at (x ∷ qs) zero q e = ap (λ z. z ∷ []) (some_is e)
take_at (x ∷ qs) (suc k) q e = ap (λ z. x ∷ z) (take_at qs k q e)

by_false : {X : Type 0} (b : Bool) (x y : X) → b ≡ false → elim b [ true ↦ x | false ↦ y ] ≡ y
by_false true x y e = absurd cc
by_false false x y e = refl

by_true : {X : Type 0} (b : Bool) (x y : X) → b ≡ true → elim b [ true ↦ x | false ↦ y ] ≡ x
by_true true x y e = refl
by_true false x y e = absurd cc

-- one more
pub passed_more : (ls : List Text) (qs : List Request) (k : ℕ) (q : Request) → Passed ls qs k → slice_get qs k ≡ Some q → has_text q.0 ls ≡ false → Passed ls qs (suc k)
passed_more ls qs k q h at other = record {
  same = h.same ∙ ap (oldest ls) (drop_at qs k q at) ∙ by_false (has_text q.0 ls) (Some q) (oldest ls (drop (suc k) qs)) other;
  rest = h.rest ∙ ap (λ z. take k qs ++ others ls z) (drop_at qs k q at)
      ∙ ap (λ z. take k qs ++ z) (by_false (has_text q.0 ls) (drop (suc k) qs) (q ∷ others ls (drop (suc k) qs)) other)
      ∙ sym (append_assoc (take k qs) (q ∷ []) (others ls (drop (suc k) qs)))
      ∙ ap (λ z. z ++ others ls (drop (suc k) qs)) (sym (take_at qs k q at));
}

-- the one that has a label
pub passed_found : (ls : List Text) (qs : List Request) (k : ℕ) (q : Request) → Passed ls qs k → slice_get qs k ≡ Some q → has_text q.0 ls ≡ true → IsOldestAt ls qs k
passed_found ls qs k q h at that = (
  h.same ∙ ap (oldest ls) (drop_at qs k q at) ∙ by_true (has_text q.0 ls) (Some q) (oldest ls (drop (suc k) qs)) that ∙ sym at,
  h.rest ∙ ap (λ z. take k qs ++ others ls z) (drop_at qs k q at) ∙ ap (λ z. take k qs ++ z) (by_true (has_text q.0 ls) (drop (suc k) qs) (q ∷ others ls (drop (suc k) qs)) that),
)

drop_all : {X : Type 0} (qs : List X) (k : ℕ) → length qs ≤ k → drop k qs ≡ []
drop_all [] zero h = refl
drop_all [] (suc k) h = refl
drop_all (x ∷ qs) zero h = absurd (omega (arith, h))
drop_all (x ∷ qs) (suc k) h = drop_all qs k (omega (arith, h))

take_all : {X : Type 0} (qs : List X) (k : ℕ) → length qs ≤ k → take k qs ≡ qs
take_all [] zero h = refl
take_all [] (suc k) h = refl
take_all (x ∷ qs) zero h = absurd (omega (arith, h))
take_all (x ∷ qs) (suc k) h = ap (λ z. x ∷ z) (take_all qs k (omega (arith, h)))

-- none has a label
pub passed_all : (ls : List Text) (qs : List Request) (k : ℕ) → Passed ls qs k → length qs ≤ k → HasNone ls qs
passed_all ls qs k h most = (
  h.same ∙ ap (oldest ls) (drop_all qs k most),
  h.rest ∙ ap (λ z. take k qs ++ others ls z) (drop_all qs k most) ∙ append-nil (take k qs) ∙ take_all qs k most,
)

-- by them a book is one in which that is served
pub served_at : (ls : List Text) (k : ℕ) (b : BookShape) → IsOldestAt ls b.pending k → book_taken k b ≡ book_served ls b
served_at ls k b h = λ i. record b { pending = sym h.1 i; serving = with_newest b.serving (sym h.0 i) }

pub served_none : (ls : List Text) (b : BookShape) → HasNone ls b.pending → b ≡ book_served ls b
served_none ls b h = λ i. record b { pending = sym h.1 i; serving = with_newest b.serving (sym h.0 i) }

-- sets of labels that have the same

same_oldest : (ks ls : List Text) (qs : List Request) → HaveSame ks ls → oldest ks qs ≡ oldest ls qs
same_oldest ks ls [] h = refl
same_oldest ks ls (q ∷ qs) h = λ i. elim (h q.0 i) [ true ↦ Some q | false ↦ same_oldest ks ls qs h i ]

same_others : (ks ls : List Text) (qs : List Request) → HaveSame ks ls → others ks qs ≡ others ls qs
same_others ks ls [] h = refl
same_others ks ls (q ∷ qs) h = λ i. elim (h q.0 i) [ true ↦ qs | false ↦ q ∷ same_others ks ls qs h i ]

same_served : (ks ls : List Text) (b : BookShape) → HaveSame ks ls → book_served ks b ≡ book_served ls b
same_served ks ls b h = λ i. record b { pending = same_others ks ls b.pending h i; serving = with_newest b.serving (same_oldest ks ls b.pending h i) }

-- By an event that is told

pub tell_sent : (to : Bor Name) (label : Bor Label) (future : Bor FutureName) (x : EventShape) (b : BookShape) → IsEvent (event.Sent to label future) x → book_received label.now.text (future_shape future.now) b ≡ book_by x b
tell_sent to label future (Sent m l f) b h = λ i. book_received (h.1 i) (h.2 i) b
tell_sent to label future (Served ls) b h = absurd h
tell_sent to label future (Made m) b h = absurd h
tell_sent to label future (Answered f) b h = absurd h
tell_sent to label future Polled b h = absurd h
tell_sent to label future (Printed l) b h = absurd h
tell_sent to label future (Standing ls) b h = absurd h
tell_sent to label future (Faulted f) b h = absurd h

pub tell_served : (wanted : Wanted) (x : EventShape) (b : BookShape) → IsEvent (event.Served wanted) x → book_served (wanted_labels wanted) b ≡ book_by x b
tell_served wanted (Served ls) b h = same_served (wanted_labels wanted) ls b h
tell_served wanted (Sent m l f) b h = absurd h
tell_served wanted (Made m) b h = absurd h
tell_served wanted (Answered f) b h = absurd h
tell_served wanted Polled b h = absurd h
tell_served wanted (Printed l) b h = absurd h
tell_served wanted (Standing ls) b h = absurd h
tell_served wanted (Faulted f) b h = absurd h

pub tell_answered : (future : Bor FutureName) (x : EventShape) (b : BookShape) → IsEvent (event.Answered future) x → book_answered b ≡ book_by x b
tell_answered future (Answered f) b h = refl
tell_answered future (Sent m l f) b h = absurd h
tell_answered future (Served ls) b h = absurd h
tell_answered future (Made m) b h = absurd h
tell_answered future Polled b h = absurd h
tell_answered future (Printed l) b h = absurd h
tell_answered future (Standing ls) b h = absurd h
tell_answered future (Faulted f) b h = absurd h

-- an event that changes a book
abbrev pub is_entered : Event → Type 0
is_entered (event.Sent to label future) = Unit {0}
is_entered (event.Served labels) = Unit {0}
is_entered (event.Answered future) = Unit {0}
is_entered e = ⊥

pub tell_other : (e : Event) (x : EventShape) (b : BookShape) → (is_entered e → ⊥) → IsEvent e x → b ≡ book_by x b
tell_other (event.Sent to label future) x b quiet h = absurd (quiet tt)
tell_other (event.Served labels) x b quiet h = absurd (quiet tt)
tell_other (event.Answered future) x b quiet h = absurd (quiet tt)
tell_other e (Made m) b quiet h = refl
tell_other e Polled b quiet h = refl
tell_other e (Printed l) b quiet h = refl
tell_other e (Standing ls) b quiet h = refl
tell_other e (Faulted f) b quiet h = refl
tell_other (event.Made made) (Sent m l f) b quiet h = absurd h
tell_other (event.Made made) (Served ls) b quiet h = absurd h
tell_other (event.Made made) (Answered f) b quiet h = absurd h
tell_other event.Polled (Sent m l f) b quiet h = absurd h
tell_other event.Polled (Served ls) b quiet h = absurd h
tell_other event.Polled (Answered f) b quiet h = absurd h
tell_other (event.Printed line) (Sent m l f) b quiet h = absurd h
tell_other (event.Printed line) (Served ls) b quiet h = absurd h
tell_other (event.Printed line) (Answered f) b quiet h = absurd h
tell_other (event.Standing labels) (Sent m l f) b quiet h = absurd h
tell_other (event.Standing labels) (Served ls) b quiet h = absurd h
tell_other (event.Standing labels) (Answered f) b quiet h = absurd h
tell_other (event.Faulted fault) (Sent m l f) b quiet h = absurd h
tell_other (event.Faulted fault) (Served ls) b quiet h = absurd h
tell_other (event.Faulted fault) (Answered f) b quiet h = absurd h

-- In lists of notes

book_append : (n : Name) (b : BookShape) (xs ys : List NoteShape) → book_from n b (xs ++ ys) ≡ book_from n (book_from n b xs) ys
book_append n b [] ys = refl
book_append n b (x ∷ xs) ys = book_append n (book_after n b x) xs ys

pub noted_kept : (old new : Books) (xs : List NoteShape) (x : NoteShape) → KeepsBooks old xs → IsNoted (owner x.by x.event) x.event old new → KeepsBooks new (xs ++ x ∷ [])
noted_kept old new xs x keeps noted n =
    noted n
    ∙ ap (λ (b : BookShape). elim (same_name (owner x.by x.event) n) [ true ↦ book_by x.event b | false ↦ b ]) (keeps n)
    ∙ sym (book_append n _ xs (x ∷ []))

same_both : {X : Type 0} (b : Bool) (y : X) → elim b [ true ↦ y | false ↦ y ] ≡ y
same_both true y = refl
same_both false y = refl

-- an event that changes no book
pub noted_nothing : (m : Name) (x : EventShape) (r : Books) → ((b : BookShape) → book_by x b ≡ b) → IsNoted m x r r
noted_nothing m x r same n =
    sym (same_both (same_name m n) (book_at r n)) ∙ ap (λ (b : BookShape). elim (same_name m n) [ true ↦ b | false ↦ book_at r n ]) (sym (same (book_at r n)))

-- lines stand in no book
pub books_deaf : (r : Books) → IsDeafToLines (KeepsBooks r)
books_deaf r xs n k l keeps m =
    keeps m ∙ sym (same_both (same_name n m) (book_in xs m)) ∙ sym (book_append m _ xs (noted_as n k (Printed l) ∷ []))

-- where activities stand stands in no book

stood_book : (m : Name) (b : BookShape) (n : Name) (a : Activity) (ls : List Text) → book_from m b (places_by n a ls) ≡ b
stood_book m b n a [] = refl
stood_book m b n a (l ∷ ls) = same_both (same_name n m) b

faulted_book : (m : Name) (b : BookShape) (n : Name) (a : Activity) (s : StatusShape) → book_from m b (faulted_by n a s) ≡ b
faulted_book m b n a (intents.Faulted g) = same_both (same_name n m) b
faulted_book m b n a intents.Done = refl
faulted_book m b n a intents.Serving = refl
faulted_book m b n a intents.Running = refl
faulted_book m b n a (intents.Awaits g) = refl

place_book : (m : Name) (b : BookShape) (n : Name) (x : Option Activity) (of : Activity → List Text) (s : StatusShape) → book_from m b (elim x [ None ↦ [] | Some a ↦ places_by n a (of a) ++ faulted_by n a s ]) ≡ b
place_book m b n None of s = refl
place_book m b n (Some a) of s =
    book_append m b (places_by n a (of a)) (faulted_by n a s)
    ∙ faulted_book m (book_from m b (places_by n a (of a))) n a s
    ∙ stood_book m b n a (of a)

places_book : (c : Configuration) (m : Name) (b : BookShape) (ns : List Name) → book_from m b (places_in c ns) ≡ b
places_book c m b [] = refl
places_book c m b (n ∷ ns) =
    book_append m b (place_of c n) (places_in c ns)
    ∙ ap (λ (z : BookShape). book_from m z (places_in c ns)) (place_book m b n (find name_cmp n c.activities) labels_wanted (status_of c n))
    ∙ places_book c m b ns

pub books_end : (r : Books) (xs : List NoteShape) (c : Configuration) (ns : List Name) → KeepsBooks r (xs ++ places_in c ns) → KeepsBooks r xs
books_end r xs c ns keeps n = keeps n ∙ book_append n _ xs (places_in c ns) ∙ places_book c n (book_in xs n) ns

-- The newest of a list

last_is : (ys : List Request) (y : Request) → (but_newest (ys ++ y ∷ []) ≡ ys) × (newest (ys ++ y ∷ []) ≡ Some y)
last_is ys y =
    let size : length (ys ++ y ∷ []) - 1 ≡ length ys = omega (arith, length-append ys (y ∷ [])) in (
      ap (λ n. take n (ys ++ y ∷ [])) size ∙ take-append_seam ys (y ∷ []),
      ap (slice_get (ys ++ y ∷ [])) size ∙ at_end ys,
    )
  where
    at_end : (zs : List Request) → slice_get (zs ++ y ∷ []) (length zs) ≡ Some y
    at_end [] = refl
    at_end (z ∷ zs) = at_end zs

pub popped_none : (old new : List Asked) → old ≡ new ++ [] → (0 < length old → ⊥) → (map request_of new ≡ but_newest (map request_of old)) × (None ≡ newest (map request_of old))
popped_none [] new e empty = (ap (map request_of) (sym (append-nil new) ∙ sym e), refl)
popped_none (x ∷ old) new e empty = absurd (empty (omega arith))

pub popped_some : (old new : List Asked) (x : Asked) → old ≡ new ++ x ∷ [] → (map request_of new ≡ but_newest (map request_of old)) × (Some (request_of x) ≡ newest (map request_of old))
popped_some old new x e =
    let same : map request_of old ≡ map request_of new ++ request_of x ∷ [] = ap (map request_of) e ∙ map-append request_of new (x ∷ []) in
    let last = last_is (map request_of new) (request_of x) in
    (sym (ap but_newest same ∙ last.0), sym (ap newest same ∙ last.1))

pub popped : (old new : List Asked) (r : Option Asked) → old ≡ new ++ option_to_list r → (IsSome r ↔ (0 < length old)) → (map request_of new ≡ but_newest (map request_of old)) × (option_map request_of r ≡ newest (map request_of old))
popped old new None e v = popped_none old new e (λ h. let bad : false ≡ true = v.1 h in absurd cc)
popped old new (Some x) e v = popped_some old new x e

pub taken_some : (old new : List Asked) (k : ℕ) (x : Asked) → new ≡ take k old ++ drop (suc k) old → slice_get old k ≡ Some x → (map request_of new ≡ take k (map request_of old) ++ drop (suc k) (map request_of old)) × (slice_get (map request_of old) k ≡ Some (request_of x))
taken_some old new k x e at = (
  ap (map request_of) e ∙ map-append request_of (take k old) (drop (suc k) old)
      ∙ (λ i. sym (take-map request_of k old) i ++ sym (drop-map request_of (suc k) old) i),
  slice_get-map request_of old k ∙ ap (option_map request_of) at,
)

-- In a map of books

pub begun : (m : Name) (x : EventShape) (old new : BTreeMap Name Book) (b : Book) → get name_cmp old m ≡ None → book_of b ≡ book_by x blank → ((n : Name) → get name_cmp new n ≡ cond (is_at (name_cmp m) n) (Some b) (get name_cmp old n))
    → (n : Name) → or_blank (get name_cmp new n) ≡ elim (same_name m n) [ true ↦ book_by x (or_blank (get name_cmp old n)) | false ↦ or_blank (get name_cmp old n) ]
begun m x old new b none is updates n = by (same_name m n) refl
  where
    by : (e : Bool) → same_name m n ≡ e → or_blank (get name_cmp new n) ≡ elim e [ true ↦ book_by x (or_blank (get name_cmp old n)) | false ↦ or_blank (get name_cmp old n) ]
    by true e = ap or_blank (updates n ∙ ap (λ z. cond z (Some b) (get name_cmp old n)) e) ∙ is ∙ sym (ap (λ o. book_by x (or_blank o)) (ap (get name_cmp old) (sym (same_name_same m n e)) ∙ none))
    by false e = ap or_blank (updates n ∙ ap (λ z. cond z (Some b) (get name_cmp old n)) e)

pub written_book : (m : Name) (x : EventShape) (old new : BTreeMap Name Book) (was now : Book) → Some was ≡ get name_cmp old m → book_of now ≡ book_by x (book_of was) → WritesThrough name_cmp (name_cmp m) old now new
    → (n : Name) → or_blank (get name_cmp new n) ≡ elim (same_name m n) [ true ↦ book_by x (or_blank (get name_cmp old n)) | false ↦ or_blank (get name_cmp old n) ]
written_book m x old new was now found is writes n =
    let there : IsSome (get name_cmp old m) = subst (λ (o : Option Book). IsSome o) found refl in
    by (same_name m n) refl ((writes.3 there).0 n)
  where
    by : (e : Bool) → same_name m n ≡ e → get name_cmp new n ≡ cond (is_at (name_cmp m) n) (Some now) (get name_cmp old n) → or_blank (get name_cmp new n) ≡ elim e [ true ↦ book_by x (or_blank (get name_cmp old n)) | false ↦ or_blank (get name_cmp old n) ]
    by true e u = ap or_blank (u ∙ ap (λ z. cond z (Some now) (get name_cmp old n)) e) ∙ is ∙ ap (λ o. book_by x (or_blank o)) (found ∙ ap (get name_cmp old) (same_name_same m n e))
    by false e u = ap or_blank (u ∙ ap (λ z. cond z (Some now) (get name_cmp old n)) e)
