-- Cells and their words, after each change of one of them.
use Rattle.std.proofs.Common.{◌≡◌, ℕ, zero, suc, ◌+◌, ◌-◌, ◌<◌, ◌≤◌, List, [], ◌∷◌, ◌++◌, Option, Some, None, Result, Ok, Err, length, take, drop, map, cond, refl, sym, ap, subst, ◌∙◌, arith, slice_set, length-append, append-nil, get_or, Bool, true, false, nat_lt}
use Rattle.std.specs.Prelude.{OnErr, swap_remove}
use Rattle.std.specs.List.{AllByRecursion}
use Rattle.std.proofs.lemmas.List.{map-append, length-map, take_more as take_one}
use Rattle.std.proofs.lemmas.Bool.Decides.{nat_tests}
use Rattle.code_table.specs.declared.cells.Cell.{Cell}
use Rattle.code_table.specs.declared.cells.Cell.TheVariants as cells
use Rattle.code_table.specs.Cells.{CodedCell, CodedStore, Object, Group, Span, all_coded, bare, cell_at, coded_in, end_of, span_of, span_places, with_cell_at, with_place_at, word_at}
use Rattle.code_table.specs.Columns.{AreApart, AreCopies, AreLaid, Grows, IsApart, IsFresh, IsIn}

-- Words

pub take_more : (ws vs : List ℕ) (n : ℕ) → n ≤ length ws → take n (ws ++ vs) ≡ take n ws
take_more ws vs zero le = refl
take_more [] vs (suc n) le = absurd (omega arith)
take_more (w ∷ ws) vs (suc n) le = ap (λ (l : List ℕ). w ∷ l) (take_more ws vs n (omega arith))

-- words behind change no span before them
pub span_more : (ws vs : List ℕ) (start count : ℕ) → start + count ≤ length ws → span_places (ws ++ vs) start count ≡ span_places ws start count
span_more ws vs zero count le = take_more ws vs count (omega arith)
span_more [] vs (suc start) count le = absurd (omega arith)
span_more (w ∷ ws) vs (suc start) count le = span_more ws vs start count (omega arith)

-- the words behind are a span
pub span_behind : (ws vs : List ℕ) → span_places (ws ++ vs) (length ws) (length vs) ≡ vs
span_behind [] vs = take_all vs
  where
    take_all : (xs : List ℕ) → take (length xs) xs ≡ xs
    take_all [] = refl
    take_all (x ∷ xs) = ap (λ (l : List ℕ). x ∷ l) (take_all xs)
span_behind (w ∷ ws) vs = span_behind ws vs

-- a word that is set outside a span
take_set : (ws : List ℕ) (n k x : ℕ) → n ≤ k → take n (slice_set ws k x) ≡ take n ws
take_set ws zero k x le = refl
take_set [] (suc n) k x le = refl
take_set (w ∷ ws) (suc n) zero x le = absurd (omega arith)
take_set (w ∷ ws) (suc n) (suc k) x le = ap (λ (l : List ℕ). w ∷ l) (take_set ws n k x (omega arith))

span_before : (ws : List ℕ) (start count k x : ℕ) → start + count ≤ k → span_places (slice_set ws k x) start count ≡ span_places ws start count
span_before ws zero count k x le = take_set ws count k x (omega arith)
span_before [] (suc start) count k x le = refl
span_before (w ∷ ws) (suc start) count zero x le = absurd (omega arith)
span_before (w ∷ ws) (suc start) count (suc k) x le = span_before ws start count k x (omega arith)

span_after : (ws : List ℕ) (start count k x : ℕ) → k < start → span_places (slice_set ws k x) start count ≡ span_places ws start count
span_after ws zero count k x lt = absurd (omega arith)
span_after [] (suc start) count k x lt = refl
span_after (w ∷ ws) (suc start) count zero x lt = refl
span_after (w ∷ ws) (suc start) count (suc k) x lt = span_after ws start count k x (omega arith)

-- a word that is set inside one
take_placed : {X : Type 0} (ws : List X) (count i : ℕ) (x : X) → i < count → take count (slice_set ws i x) ≡ slice_set (take count ws) i x
take_placed ws zero i x lt = absurd (omega arith)
take_placed [] (suc count) i x lt = refl
take_placed (w ∷ ws) (suc count) zero x lt = refl
take_placed (w ∷ ws) (suc count) (suc i) x lt = ap (λ l. w ∷ l) (take_placed ws count i x (omega arith))

pub span_placed : (ws : List ℕ) (start count i x : ℕ) → i < count → span_places (slice_set ws (start + i) x) start count ≡ slice_set (span_places ws start count) i x
span_placed ws zero count i x lt = let e : 0 + i ≡ i = omega arith in ap (λ n. span_places (slice_set ws n x) 0 count) e ∙ take_placed ws count i x lt
span_placed [] (suc start) count i x lt = taken count
  where
    taken : (n : ℕ) → take n [] ≡ slice_set (take n []) i x
    taken zero = refl
    taken (suc n) = refl
span_placed (w ∷ ws) (suc start) count i x lt =
    let e : suc start + i ≡ suc (start + i) = omega arith in
    ap (λ n. span_places (slice_set (w ∷ ws) n x) (suc start) count) e ∙ span_placed ws start count i x lt

-- Cells

-- words behind change no cell that lies before them
pub coded_more : (ws vs : List ℕ) (c : Cell) → end_of c ≤ length ws → coded_in (ws ++ vs) c ≡ coded_in ws c
coded_more ws vs (cells.Number n) le = refl
coded_more ws vs (cells.Object k start count) le = ap (Object k) (span_more ws vs start count le)
coded_more ws vs (cells.Group start count) le = ap Group (span_more ws vs start count le)
coded_more ws vs (cells.Reference n) le = refl
coded_more ws vs (cells.Future f) le = refl

abbrev Within : ℕ → List Span → Type 0
Within n = AllByRecursion (λ (s : Span). s.1 ≤ n)

pub all_coded_more : (ws vs : List ℕ) (cs : List Cell) → Within (length ws) (map span_of cs) → all_coded (ws ++ vs) cs ≡ all_coded ws cs
all_coded_more ws vs [] h = refl
all_coded_more ws vs (c ∷ cs) h = λ i. coded_more ws vs c h.0 i ∷ all_coded_more ws vs cs h.1 i

-- Spans

within_more : (m n : ℕ) (ss : List Span) → m ≤ n → Within m ss → Within n ss
within_more m n [] le h = tt
within_more m n (s ∷ ss) le h = (omega (arith, h.0), within_more m n ss le h.1)

within_append : (n : ℕ) (ss ts : List Span) → Within n ss → Within n ts → Within n (ss ++ ts)
within_append n [] ts h g = g
within_append n (s ∷ ss) ts h g = (h.0, within_append n ss ts h.1 g)

apart_behind : (n : ℕ) (s t : Span) → s.1 ≤ n → ((k : ℕ) → IsIn k t → n ≤ k) → IsApart s t
apart_behind n s t le behind = λ k here there. let b = behind k there in absurd (omega (arith, le, here.1, b))

all_apart_push : (s t : Span) (ss : List Span) → AllByRecursion (IsApart s) ss → IsApart s t → AllByRecursion (IsApart s) (ss ++ t ∷ [])
all_apart_push s t [] h a = (a, tt)
all_apart_push s t (r ∷ ss) h a = (h.0, all_apart_push s t ss h.1 a)

apart_push : (n : ℕ) (t : Span) (ss : List Span) → Within n ss → ((k : ℕ) → IsIn k t → n ≤ k) → AreApart ss → AreApart (ss ++ t ∷ [])
apart_push n t [] w behind h = (tt, tt)
apart_push n t (s ∷ ss) w behind h = (all_apart_push s t ss h.0 (apart_behind n s t w.0 behind), apart_push n t ss w.1 behind h.1)

-- one more cell, whose words lie behind those of all others
pub laid_push : (old new : List ℕ) (is : CodedCell) (cs : List Cell) (c : Cell) → AreLaid (length old) (map span_of cs) → Grows old new → IsFresh old new is c → AreLaid (length new) (map span_of (cs ++ c ∷ []))
laid_push old new is cs c laid grown fresh =
    let le : length old ≤ length new = omega (arith, ap (λ (l : List ℕ). length l) grown.1, length-append old grown.0) in
    let ss = map span_of cs in
    subst (AreLaid (length new)) (sym (map-append span_of cs (c ∷ [])))
    (record {
      within = within_append (length new) ss (span_of c ∷ []) (within_more (length old) (length new) ss le laid.within) (fresh.within, tt);
      apart = apart_push (length old) (span_of c) ss laid.within fresh.behind laid.apart;
    })

pub laid_more : (old new : List ℕ) (ss : List Span) → AreLaid (length old) ss → Grows old new → AreLaid (length new) ss
laid_more old new ss laid grown =
    let le : length old ≤ length new = omega (arith, ap (λ (l : List ℕ). length l) grown.1, length-append old grown.0) in
    record { within = within_more (length old) (length new) ss le laid.within; apart = laid.apart }

-- the cells with one more
pub coded_push : (old new : List ℕ) (is : CodedCell) (cs : List Cell) (c : Cell) → AreLaid (length old) (map span_of cs) → Grows old new → IsFresh old new is c → all_coded new (cs ++ c ∷ []) ≡ all_coded old cs ++ is ∷ []
coded_push old new is cs c laid grown fresh =
    map-append (coded_in new) cs (c ∷ [])
    ∙ ap (λ (s : CodedStore). s ++ coded_in new c ∷ []) (ap (λ (ws : List ℕ). all_coded ws cs) grown.1 ∙ all_coded_more old grown.0 cs laid.within)
    ∙ ap (λ (d : CodedCell). all_coded old cs ++ d ∷ []) fresh.cell

pub coded_grown : (old new : List ℕ) (cs : List Cell) → AreLaid (length old) (map span_of cs) → Grows old new → all_coded new cs ≡ all_coded old cs
coded_grown old new cs laid grown = ap (λ (ws : List ℕ). all_coded ws cs) grown.1 ∙ all_coded_more old grown.0 cs laid.within

-- fewer cells
within_left : (n : ℕ) (ss ts : List Span) → Within n (ss ++ ts) → Within n ss
within_left n [] ts h = tt
within_left n (s ∷ ss) ts h = (h.0, within_left n ss ts h.1)

all_apart_left : (s : Span) (ss ts : List Span) → AllByRecursion (IsApart s) (ss ++ ts) → AllByRecursion (IsApart s) ss
all_apart_left s [] ts h = tt
all_apart_left s (r ∷ ss) ts h = (h.0, all_apart_left s ss ts h.1)

apart_left : (ss ts : List Span) → AreApart (ss ++ ts) → AreApart ss
apart_left [] ts h = tt
apart_left (s ∷ ss) ts h = (all_apart_left s ss ts h.0, apart_left ss ts h.1)

pub laid_left : (n : ℕ) (cs ds : List Cell) → AreLaid n (map span_of (cs ++ ds)) → AreLaid n (map span_of cs)
laid_left n cs ds laid =
    let both : AreLaid n (map span_of cs ++ map span_of ds) = subst (AreLaid n) (map-append span_of cs ds) laid in
    record { within = within_left n (map span_of cs) (map span_of ds) both.within; apart = apart_left (map span_of cs) (map span_of ds) both.apart }

-- the last cell in the place of another
last_within : (n : ℕ) (ss : List Span) (t : Span) → Within n (ss ++ t ∷ []) → t.1 ≤ n
last_within n [] t h = h.0
last_within n (s ∷ ss) t h = last_within n ss t h.1

apart_last : (s t : Span) (ss : List Span) → AllByRecursion (IsApart s) (ss ++ t ∷ []) → IsApart s t
apart_last s t [] h = h.0
apart_last s t (r ∷ ss) h = apart_last s t ss h.1

turned : (s t : Span) → IsApart s t → IsApart t s
turned s t h = λ k here there. h k there here

-- the last one is apart from all before
from_last : (ss : List Span) (t : Span) → AreApart (ss ++ t ∷ []) → AllByRecursion (IsApart t) ss
from_last [] t h = tt
from_last (s ∷ ss) t h = (turned s t (apart_last s t ss h.0), from_last ss t h.1)

all_apart_set : (s t : Span) (ss : List Span) (p : ℕ) → AllByRecursion (IsApart s) ss → IsApart s t → AllByRecursion (IsApart s) (slice_set ss p t)
all_apart_set s t [] p h a = tt
all_apart_set s t (r ∷ ss) zero h a = (a, h.1)
all_apart_set s t (r ∷ ss) (suc p) h a = (h.0, all_apart_set s t ss p h.1 a)

apart_set : (t : Span) (ss : List Span) (p : ℕ) → AllByRecursion (IsApart t) ss → AreApart ss → AreApart (slice_set ss p t)
apart_set t [] p from h = tt
apart_set t (s ∷ ss) zero from h = (from.1, h.1)
apart_set t (s ∷ ss) (suc p) from h = (all_apart_set s t ss p h.0 (turned t s from.0), apart_set t ss p from.1 h.1)

within_set : (n : ℕ) (t : Span) (ss : List Span) (p : ℕ) → Within n ss → t.1 ≤ n → Within n (slice_set ss p t)
within_set n t [] p h le = tt
within_set n t (s ∷ ss) zero h le = (le, h.1)
within_set n t (s ∷ ss) (suc p) h le = (h.0, within_set n t ss p h.1 le)

map_set : {X Y : Type 0} (f : X → Y) (xs : List X) (p : ℕ) (x : X) → map f (slice_set xs p x) ≡ slice_set (map f xs) p (f x)
map_set f [] p x = refl
map_set f (y ∷ xs) zero x = refl
map_set f (y ∷ xs) (suc p) x = ap (λ (l : List _). f y ∷ l) (map_set f xs p x)

pub laid_turned : (n : ℕ) (cs : List Cell) (c : Cell) (p : ℕ) → AreLaid n (map span_of (cs ++ c ∷ [])) → AreLaid n (map span_of (slice_set cs p c))
laid_turned n cs c p laid =
    let both : AreLaid n (map span_of cs ++ span_of c ∷ []) = subst (AreLaid n) (map-append span_of cs (c ∷ [])) laid in
    let ss = map span_of cs in
    subst (AreLaid n) (sym (map_set span_of cs p c))
    (record {
      within = within_set n (span_of c) ss p (within_left n ss (span_of c ∷ []) both.within) (last_within n ss (span_of c) both.within);
      apart = apart_set (span_of c) ss p (from_last ss (span_of c) both.apart) (apart_left ss (span_of c ∷ []) both.apart);
    })

pub coded_set : (ws : List ℕ) (cs : List Cell) (p : ℕ) (c : Cell) → all_coded ws (slice_set cs p c) ≡ with_cell_at (all_coded ws cs) p (coded_in ws c)
coded_set ws [] p d = refl
coded_set ws (c ∷ cs) zero d = refl
coded_set ws (c ∷ cs) (suc p) d = ap (λ (s : CodedStore). coded_in ws c ∷ s) (coded_set ws cs p d)

-- A cell at a place

pub at_place : (ws : List ℕ) (cs : List Cell) (p : ℕ) (d : Cell) → p < length cs → cell_at (all_coded ws cs) p ≡ coded_in ws (get_or cs p d)
at_place ws [] p d h = absurd (omega arith)
at_place ws (c ∷ cs) zero d h = refl
at_place ws (c ∷ cs) (suc p) d h = at_place ws cs p d (omega arith)

pub within_at : (n : ℕ) (cs : List Cell) (p : ℕ) (d : Cell) → p < length cs → AreLaid n (map span_of cs) → end_of (get_or cs p d) ≤ n
within_at n cs p d lt laid = by cs p lt laid.within
  where
    by : (cs : List Cell) (p : ℕ) → p < length cs → Within n (map span_of cs) → end_of (get_or cs p d) ≤ n
    by [] p lt h = absurd (omega arith)
    by (c ∷ cs) zero lt h = h.0
    by (c ∷ cs) (suc p) lt h = by cs p (omega arith) h.1

-- A word that is set

span_kept : (ws : List ℕ) (k x start count : ℕ) → (IsIn k (start, start + count) → ⊥) → span_places (slice_set ws k x) start count ≡ span_places ws start count
span_kept ws k x start count h = by (nat_lt k start) refl (nat_lt k (start + count)) refl
  where
    by : (b : Bool) → nat_lt k start ≡ b → (c : Bool) → nat_lt k (start + count) ≡ c → span_places (slice_set ws k x) start count ≡ span_places ws start count
    by true e c g = span_after ws start count k x (grind (arith, nat_tests))
    by false e false g = span_before ws start count k x (grind (arith, nat_tests))
    by false e true g =
        let low : start ≤ k = grind (arith, nat_tests) in
        let high : k < start + count = grind (arith, nat_tests) in
        absurd (h (low, high))

kept : (ws : List ℕ) (k x : ℕ) (s : Span) (c : Cell) → span_of c ≡ s → (IsIn k s → ⊥) → coded_in (slice_set ws k x) c ≡ coded_in ws c
kept ws k x s (cells.Number n) e h = refl
kept ws k x s (cells.Object m start count) e h = ap (Object m) (span_kept ws k x start count (λ g. h (subst (IsIn k) e g)))
kept ws k x s (cells.Group start count) e h = ap Group (span_kept ws k x start count (λ g. h (subst (IsIn k) e g)))
kept ws k x s (cells.Reference n) e h = refl
kept ws k x s (cells.Future f) e h = refl

all_kept : (ws : List ℕ) (k x : ℕ) (s : Span) (cs : List Cell) → IsIn k s → AllByRecursion (IsApart s) (map span_of cs) → all_coded (slice_set ws k x) cs ≡ all_coded ws cs
all_kept ws k x s [] here h = refl
all_kept ws k x s (c ∷ cs) here h =
    let head = kept ws k x (span_of c) c refl (λ there. h.0 k here there) in
    λ i. head i ∷ all_kept ws k x s cs here h.1 i

at_span : (s : Span) (cs : List Cell) (p : ℕ) (d : Cell) → p < length cs → AllByRecursion (IsApart s) (map span_of cs) → IsApart s (span_of (get_or cs p d))
at_span s [] p d lt h = absurd (omega arith)
at_span s (c ∷ cs) zero d lt h = h.0
at_span s (c ∷ cs) (suc p) d lt h = at_span s cs p d (omega arith) h.1

-- a word of one cell is set: the others stay
pub coded_placed : (ws : List ℕ) (k x : ℕ) (cs : List Cell) (p : ℕ) (d : Cell) → p < length cs → IsIn k (span_of (get_or cs p d)) → AreApart (map span_of cs) → all_coded (slice_set ws k x) cs ≡ with_cell_at (all_coded ws cs) p (coded_in (slice_set ws k x) (get_or cs p d))
coded_placed ws k x [] p d lt here h = absurd (omega arith)
coded_placed ws k x (c ∷ cs) zero d lt here h =
    ap (λ (s : CodedStore). coded_in (slice_set ws k x) c ∷ s) (all_kept ws k x (span_of c) cs here h.0)
coded_placed ws k x (c ∷ cs) (suc p) d lt here h =
    let head = kept ws k x (span_of c) c refl (λ mine. at_span (span_of c) cs p d (omega arith) h.0 k mine here) in
    let rest = coded_placed ws k x cs p d (omega arith) here h.1 in
    λ i. head i ∷ rest i

-- a cell that has no words

pub coded_bare : (ws : List ℕ) (c : Cell) → end_of c ≡ 0 → coded_in ws c ≡ bare c
coded_bare ws c none = coded_more [] ws c (omega (arith, none))

pub fresh_bare : (ws : List ℕ) (c : Cell) → end_of c ≡ 0 → IsFresh ws ws (coded_in ws c) c
fresh_bare ws c none = record {
  cell = refl;
  within = omega (arith, none);
  behind = λ k h. absurd (omega (arith, none, h.1));
}

pub laid_bare : (ws : List ℕ) (cs : List Cell) (c : Cell) → AreLaid (length ws) (map span_of cs) → end_of c ≡ 0 → AreLaid (length ws) (map span_of (cs ++ c ∷ []))
laid_bare ws cs c laid none = laid_push ws ws (coded_in ws c) cs c laid ([], sym (append-nil ws)) (fresh_bare ws c none)

-- a place of what contracts see is one of the vector
pub place_within : (ws : List ℕ) (cs : List Cell) (v : CodedStore) (p : ℕ) → all_coded ws cs ≡ v → p < length v → p < length cs
place_within ws cs v p e lt = let size : length v ≡ length cs = sym (ap (λ (s : CodedStore). length s) e) ∙ length-map cs (coded_in ws) in omega (arith, lt, size)

pub on_error : {A E P : Type 0} (r : Result A E) → P → OnErr r P
on_error (Ok v) p = tt
on_error (Err e) p = p

-- The words of an object

abbrev is_there : Option ℕ → Type 0
is_there None = ⊥
is_there (Some n) = Unit {0}

nothing : {C : Type 0} (w : ℕ) → Some w ≡ None → C
nothing w is = absurd (subst is_there is tt)

abbrev some_or : ℕ → Option ℕ → ℕ
some_or d None = d
some_or d (Some n) = n

in_span : (start count i w : ℕ) → (b : Bool) → nat_lt i count ≡ b → Some w ≡ cond b (Some (start + i)) None → IsIn w (start, start + count) × (w ≡ start + i) × (i < count)
in_span start count i w true e is =
    let lt : i < count = grind (arith, nat_tests) in
    let same : w ≡ start + i = ap (some_or w) is in
    ((omega (arith, same), omega (arith, same, lt)), same, lt)
in_span start count i w false e is = nothing w is

pub word_in : (c : Cell) (i w : ℕ) → Some w ≡ word_at i c → IsIn w (span_of c)
word_in (cells.Object k start count) i w is = (in_span start count i w (nat_lt i count) refl is).0
word_in (cells.Number n) i w is = nothing w is
word_in (cells.Group start count) i w is = nothing w is
word_in (cells.Reference n) i w is = nothing w is
word_in (cells.Future f) i w is = nothing w is

pub word_set : (ws : List ℕ) (c : Cell) (i w x : ℕ) → Some w ≡ word_at i c → coded_in (slice_set ws w x) c ≡ with_place_at i x (coded_in ws c)
word_set ws (cells.Object k start count) i w x is =
    let at = in_span start count i w (nat_lt i count) refl is in
    ap (Object k) (ap (λ n. span_places (slice_set ws n x) start count) at.1 ∙ span_placed ws start count i x at.2)
word_set ws (cells.Number n) i w x is = nothing w is
word_set ws (cells.Group start count) i w x is = nothing w is
word_set ws (cells.Reference n) i w x is = nothing w is
word_set ws (cells.Future f) i w x is = nothing w is

set_past : (xs : List ℕ) (n i x : ℕ) → n ≤ i → slice_set (take n xs) i x ≡ take n xs
set_past xs zero i x le = refl
set_past [] (suc n) i x le = refl
set_past (y ∷ xs) (suc n) zero x le = absurd (omega arith)
set_past (y ∷ xs) (suc n) (suc i) x le = ap (λ (l : List ℕ). y ∷ l) (set_past xs n i x (omega arith))

past_count : (start count i : ℕ) → (b : Bool) → nat_lt i count ≡ b → None ≡ cond b (Some (start + i)) None → count ≤ i
past_count start count i true e is = nothing (start + i) (sym is)
past_count start count i false e is = grind (arith, nat_tests)

pub no_word : (ws : List ℕ) (c : Cell) (i x : ℕ) → None ≡ word_at i c → with_place_at i x (coded_in ws c) ≡ coded_in ws c
no_word ws (cells.Object k start count) i x is = ap (Object k) (set_past (drop start ws) count i x (past_count start count i (nat_lt i count) refl is))
no_word ws (cells.Number n) i x is = refl
no_word ws (cells.Group start count) i x is = refl
no_word ws (cells.Reference n) i x is = refl
no_word ws (cells.Future f) i x is = refl

pub with_same : (s : CodedStore) (p : ℕ) → with_cell_at s p (cell_at s p) ≡ s
with_same [] p = refl
with_same (c ∷ s) zero = refl
with_same (c ∷ s) (suc p) = ap (λ (t : CodedStore). c ∷ t) (with_same s p)

-- Copies

pub copies_more : (old new : List Cell) (c d : Cell) → AreCopies old new → ((ws : List ℕ) → coded_in ws d ≡ coded_in ws c) → span_of d ≡ span_of c → AreCopies (old ++ c ∷ []) (new ++ d ∷ [])
copies_more old new c d copies cell span = record {
  cells = λ ws. map-append (coded_in ws) new (d ∷ []) ∙ (λ i. copies.cells ws i ++ cell ws i ∷ []) ∙ sym (map-append (coded_in ws) old (c ∷ []));
  spans = map-append span_of new (d ∷ []) ∙ (λ i. copies.spans i ++ span i ∷ []) ∙ sym (map-append span_of old (c ∷ []));
}

-- The last cell in the place of another

all_of : {X : Type 0} (xs : List X) → take (length xs) xs ≡ xs
all_of [] = refl
all_of (x ∷ xs) = ap (λ l. x ∷ l) (all_of xs)

before_last : (cs : List Cell) (d : Cell) → 0 < length cs → cs ≡ take (length cs - 1) cs ++ get_or cs (length cs - 1) d ∷ []
before_last cs d some =
    let more : length cs - 1 + 1 ≡ length cs = omega (arith, some) in
    let less : length cs - 1 < length cs = omega (arith, some) in
    sym (all_of cs) ∙ ap (λ n. take n cs) (sym more) ∙ take_one cs (length cs - 1) d less

swapped : (cs : List Cell) (i : ℕ) (d : Cell) → i + 1 < length cs → swap_remove cs i d ≡ slice_set (take (length cs - 1) cs) i (get_or cs (length cs - 1) d)
swapped cs i d lt = let less : i < length cs - 1 = omega (arith, lt) in take_placed cs (length cs - 1) i (get_or cs (length cs - 1) d) less

pub laid_swapped : (n : ℕ) (cs : List Cell) (i : ℕ) (d : Cell) → i + 1 < length cs → AreLaid n (map span_of cs) → AreLaid n (map span_of (swap_remove cs i d))
laid_swapped n cs i d lt laid =
    let some : 0 < length cs = omega (arith, lt) in
    let split = subst (λ (l : List Cell). AreLaid n (map span_of l)) (before_last cs d some) laid in
    subst (λ (l : List Cell). AreLaid n (map span_of l)) (sym (swapped cs i d lt)) (laid_turned n (take (length cs - 1) cs) (get_or cs (length cs - 1) d) i split)

take_coded : (ws : List ℕ) (cs : List Cell) (n : ℕ) → all_coded ws (take n cs) ≡ take n (all_coded ws cs)
take_coded ws cs zero = refl
take_coded ws [] (suc n) = refl
take_coded ws (c ∷ cs) (suc n) = ap (λ (s : CodedStore). coded_in ws c ∷ s) (take_coded ws cs n)

pub coded_swapped : (ws : List ℕ) (cs : List Cell) (v : CodedStore) (i : ℕ) (d : Cell) → all_coded ws cs ≡ v → i + 1 < length cs → all_coded ws (swap_remove cs i d) ≡ with_cell_at (take (length v - 1) v) i (cell_at v (length v - 1))
coded_swapped ws cs v i d e lt =
    let less : length cs - 1 < length cs = omega (arith, lt) in
    let here : all_coded ws (swap_remove cs i d) ≡ with_cell_at (take (length cs - 1) (all_coded ws cs)) i (cell_at (all_coded ws cs) (length cs - 1)) =
    ap (all_coded ws) (swapped cs i d lt) ∙ coded_set ws (take (length cs - 1) cs) i (get_or cs (length cs - 1) d)
    ∙ (λ j. with_cell_at (take_coded ws cs (length cs - 1) j) i (sym (at_place ws cs (length cs - 1) d less) j)) in
    here ∙ ap (λ n. with_cell_at (take (n - 1) (all_coded ws cs)) i (cell_at (all_coded ws cs) (n - 1))) (sym (length-map cs (coded_in ws)))
    ∙ ap (λ (s : CodedStore). with_cell_at (take (length s - 1) s) i (cell_at s (length s - 1))) e
