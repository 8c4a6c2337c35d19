-- How the holders of a future change with the cells.
use Rattle.std.proofs.Common.{◌≡◌, ℕ, zero, suc, ◌+◌, ◌<◌, Bool, true, false, List, [], ◌∷◌, ◌++◌, length, drop, map, refl, sym, ap, ◌∙◌, arith, append_assoc, append-nil}
use Rattle.asp_model.specs.Names.{FutureShape}
use Rattle.code_table.specs.Cells.{ArePlain, CodedCell, CodedStore, Future, Group, IsPlain, Number, Object, Reference, cell_at, moved_coded, with_cell_at}
use Rattle.code_table.proofs.CodedLemmas.{drop_cell}
use Rattle.std.specs.List.{AllByRecursion}
use Rattle.object_store.specs.Places.{with_place, without_place}
use Rattle.object_store.specs.Holders.{is_future, holders_from, holders}
use Rattle.object_store.proofs.PlaceLemmas.{with_above, with_below, with_first, without_first, without_below}
use Rattle.object_store.proofs.IndexLemmas.{changed_so}

-- the places from n on, where the first cell has or has not the future
abbrev pub front : Bool → ℕ → List ℕ → List ℕ
front here n rest = elim here [ true ↦ n ∷ rest | false ↦ rest ]

-- Order

abbrev AllAbove : ℕ → List ℕ → Type 0
AllAbove n = AllByRecursion (λ m. n < m)

above : (m n : ℕ) (f : FutureShape) (cs : CodedStore) → m < n → AllAbove m (holders_from n f cs)
above m n f [] lt = tt
above m n f (c ∷ cs) lt =
    let rest = above m (suc n) f cs (omega arith) in
    elim (is_future f c) as (λ b. AllAbove m (front b n (holders_from (suc n) f cs))) [ true ↦ (lt, rest) | false ↦ rest ]

with_least : (n : ℕ) (xs : List ℕ) → AllAbove n xs → with_place n xs ≡ n ∷ xs
with_least n [] h = refl
with_least n (x ∷ xs) h = with_above n x xs h.0

-- One cell in the place of another

-- the places of a future, where one cell had it or not, and has it then or not
abbrev pub exchanged : (had has : Bool) → ℕ → List ℕ → List ℕ
exchanged had has p xs = elim has [ true ↦ with_place p xs | false ↦ changed_so (without_place p) had xs ]

exchanged_behind : (had has : Bool) (n p : ℕ) (xs : List ℕ) → n < p → exchanged had has p (n ∷ xs) ≡ n ∷ exchanged had has p xs
exchanged_behind had true n p xs lt = with_below p n xs lt
exchanged_behind true false n p xs lt = without_below p n xs lt
exchanged_behind false false n p xs lt = refl

behind_front : (here had has : Bool) (n p : ℕ) (xs : List ℕ) → n < p → front here n (exchanged had has p xs) ≡ exchanged had has p (front here n xs)
behind_front true had has n p xs lt = sym (exchanged_behind had has n p xs lt)
behind_front false had has n p xs lt = refl

exchanged_first : (had has : Bool) (n : ℕ) (xs : List ℕ) → AllAbove n xs → front has n xs ≡ exchanged had has n (front had n xs)
exchanged_first true true n xs h = sym (with_first n n xs refl)
exchanged_first false true n xs h = sym (with_least n xs h)
exchanged_first true false n xs h = sym (without_first n n xs refl)
exchanged_first false false n xs h = refl

replaced_from : (n : ℕ) (f : FutureShape) (cs : CodedStore) (i : ℕ) (c : CodedCell) → i < length cs → holders_from n f (with_cell_at cs i c) ≡ exchanged (is_future f (cell_at cs i)) (is_future f c) (n + i) (holders_from n f cs)
replaced_from n f [] i c lt = absurd (omega arith)
replaced_from n f (d ∷ cs) zero c lt =
    let e : n + 0 ≡ n = omega arith in
    exchanged_first (is_future f d) (is_future f c) n (holders_from (suc n) f cs) (above n (suc n) f cs (omega arith))
    ∙ ap (λ p. exchanged (is_future f d) (is_future f c) p (front (is_future f d) n (holders_from (suc n) f cs))) (sym e)
replaced_from n f (d ∷ cs) (suc i) c lt =
    let e : suc n + i ≡ n + suc i = omega arith in
    let had = is_future f (cell_at cs i) in
    let has = is_future f c in
    let rest = holders_from (suc n) f cs in
    ap (front (is_future f d) n) (replaced_from (suc n) f cs i c (omega arith) ∙ ap (λ p. exchanged had has p rest) e)
    ∙ behind_front (is_future f d) had has n (n + suc i) rest (omega arith)

pub replaced : (f : FutureShape) (cs : CodedStore) (i : ℕ) (c : CodedCell) → i < length cs → holders f (with_cell_at cs i c) ≡ exchanged (is_future f (cell_at cs i)) (is_future f c) i (holders f cs)
replaced f cs i c lt = let e : 0 + i ≡ i = omega arith in
    replaced_from 0 f cs i c lt ∙ ap (λ p. exchanged (is_future f (cell_at cs i)) (is_future f c) p (holders f cs)) e

-- a cell that holds the future as the one before it did
pub held_alike : (n : ℕ) (f : FutureShape) (cs : CodedStore) (i : ℕ) (c : CodedCell) → is_future f c ≡ is_future f (cell_at cs i) → holders_from n f (with_cell_at cs i c) ≡ holders_from n f cs
held_alike n f [] i c e = refl
held_alike n f (d ∷ cs) zero c e = ap (λ b. front b n (holders_from (suc n) f cs)) e
held_alike n f (d ∷ cs) (suc i) c e = ap (front (is_future f d) n) (held_alike (suc n) f cs i c e)

-- One cell more, or less

added_from : (n : ℕ) (f : FutureShape) (cs : CodedStore) (c : CodedCell) → holders_from n f (cs ++ c ∷ []) ≡ changed_so (with_place (n + length cs)) (is_future f c) (holders_from n f cs)
added_from n f [] c = let e : n ≡ n + 0 = omega arith in ap (λ p. changed_so (with_place p) (is_future f c) []) e
added_from n f (d ∷ cs) c =
    let e : suc n + length cs ≡ n + suc (length cs) = omega arith in
    let rest = holders_from (suc n) f cs in
    ap (front (is_future f d) n) (added_from (suc n) f cs c ∙ ap (λ p. changed_so (with_place p) (is_future f c) rest) e)
    ∙ behind_front (is_future f d) false (is_future f c) n (n + suc (length cs)) rest (omega arith)

pub added : (f : FutureShape) (cs : CodedStore) (c : CodedCell) → holders f (cs ++ c ∷ []) ≡ changed_so (with_place (length cs)) (is_future f c) (holders f cs)
added f cs c = let e : 0 + length cs ≡ length cs = omega arith in added_from 0 f cs c ∙ ap (λ p. changed_so (with_place p) (is_future f c) (holders f cs)) e

left_from : (n : ℕ) (f : FutureShape) (cs : CodedStore) (c : CodedCell) → changed_so (without_place (n + length cs)) (is_future f c) (holders_from n f (cs ++ c ∷ [])) ≡ holders_from n f cs
left_from n f [] c = elim (is_future f c) as (λ b. changed_so (without_place (n + 0)) b (front b n []) ≡ []) [
  | true ↦ without_first (n + 0) n [] (omega arith)
  | false ↦ refl
]
left_from n f (d ∷ cs) c =
    let e : n + suc (length cs) ≡ suc n + length cs = omega arith in
    let rest = holders_from (suc n) f (cs ++ c ∷ []) in
    sym (behind_front (is_future f d) (is_future f c) false n (n + suc (length cs)) rest (omega arith))
    ∙ ap (front (is_future f d) n) (ap (λ p. changed_so (without_place p) (is_future f c) rest) e ∙ left_from (suc n) f cs c)

pub left : (f : FutureShape) (cs : CodedStore) (c : CodedCell) → changed_so (without_place (length cs)) (is_future f c) (holders f (cs ++ c ∷ [])) ≡ holders f cs
left f cs c = let e : length cs ≡ 0 + length cs = omega arith in ap (λ p. changed_so (without_place p) (is_future f c) (holders f (cs ++ c ∷ []))) e ∙ left_from 0 f cs c

-- A walk over the cells

-- the places from one on begin with it, where its cell is the future
pub holders_here : (f : FutureShape) (s : CodedStore) (p : ℕ) (b : Bool) → p < length s → is_future f (cell_at s p) ≡ b → holders_from p f (drop p s) ≡ front b p (holders_from (p + 1) f (drop (p + 1) s))
holders_here f s p b lt e =
    let on : suc p ≡ p + 1 = omega arith in
    ap (holders_from p f) (drop_cell s p lt) ∙ (λ i. front (e i) p (holders_from (on i) f (drop (p + 1) s)))

-- one cell more is looked at, and its place noted where it is the future
pub walked : (f : FutureShape) (s : CodedStore) (p : ℕ) (b : Bool) (xs ys : List ℕ) → p < length s → is_future f (cell_at s p) ≡ b → ys ≡ xs ++ front b p [] → ys ++ holders_from (p + 1) f (drop (p + 1) s) ≡ xs ++ holders_from p f (drop p s)
walked f s p b xs ys lt e is =
    let rest = holders_from (p + 1) f (drop (p + 1) s) in
    ap (λ (l : List ℕ). l ++ rest) is ∙ joined b rest ∙ ap (λ (l : List ℕ). xs ++ l) (sym (holders_here f s p b lt e))
  where
    joined : (here : Bool) (rest : List ℕ) → (xs ++ front here p []) ++ rest ≡ xs ++ front here p rest
    joined true rest = append_assoc xs (p ∷ []) rest
    joined false rest = ap (λ (l : List ℕ). l ++ rest) (append-nil xs)

-- Cells that are no futures

not_held : (f : FutureShape) (c : CodedCell) → IsPlain c → is_future f c ≡ false
not_held f (Number n) h = refl
not_held f (Object k ns) h = refl
not_held f (Reference a) h = refl
not_held f (Future g) h = absurd h
not_held f (Group ns) h = refl

none_held : (n : ℕ) (f : FutureShape) (cs : CodedStore) → ArePlain cs → holders_from n f cs ≡ []
none_held n f [] h = refl
none_held n f (c ∷ cs) h = ap (λ b. front b n (holders_from (suc n) f cs)) (not_held f c h.0) ∙ none_held (suc n) f cs h.1

plain_from : (n : ℕ) (f : FutureShape) (s cs : CodedStore) → ArePlain cs → holders_from n f (s ++ cs) ≡ holders_from n f s
plain_from n f [] cs h = none_held n f cs h
plain_from n f (d ∷ s) cs h = ap (front (is_future f d) n) (plain_from (suc n) f s cs h)

pub plain_behind : (f : FutureShape) (s cs : CodedStore) → ArePlain cs → holders f (s ++ cs) ≡ holders f s
plain_behind = plain_from 0

plain_drop : (k : ℕ) (cs : CodedStore) → ArePlain cs → ArePlain (drop k cs)
plain_drop zero cs h = h
plain_drop (suc k) [] h = tt
plain_drop (suc k) (c ∷ cs) h = plain_drop k cs h.1

moved_plain : (g : ℕ → ℕ) (c : CodedCell) → IsPlain c → IsPlain (moved_coded g c)
moved_plain g (Number n) h = tt
moved_plain g (Object k ns) h = tt
moved_plain g (Reference a) h = tt
moved_plain g (Future f) h = h
moved_plain g (Group ns) h = tt

all_moved_plain : (g : ℕ → ℕ) (cs : CodedStore) → ArePlain cs → ArePlain (map (moved_coded g) cs)
all_moved_plain g [] h = tt
all_moved_plain g (c ∷ cs) h = (moved_plain g c h.0, all_moved_plain g cs h.1)

pub attached_plain : (g : ℕ → ℕ) (k : ℕ) (cs : CodedStore) → ArePlain cs → ArePlain (map (moved_coded g) (drop k cs))
attached_plain g k cs h = all_moved_plain g (drop k cs) (plain_drop k cs h)
