-- Numbers at names, as functions.
use Rattle.std.specs.Prelude.{◌≡◌, ℕ, ◌+◌, ◌≤◌, ◌<◌, Bool, true, false, cond, List, [], ◌∷◌, ◌++◌, Option, Some, map, length, unwrap_or}
use Rattle.std.proofs.Common.{zero, suc, refl, sym, ap, ◌∙◌, arith, take, get_or, inl, inr}
use Rattle.std.proofs.lemmas.List.{take_more}
use Rattle.std.specs.HashMap.{HashMap, IsEmpty, Updates, get_by}
use Rattle.std.specs.Map.{lookup}
use denote.Ref.{Bor}
use Rattle.asp_model.specs.Names.{Name, FutureShape, same_name}
use Rattle.law_steps.specs.Kept.{one_where}
use Rattle.law_frozen.specs.Frozen.{FrozenActivity, FrozenShape}
use Rattle.law_steps.proofs.EntryLemmas.{In}
use Rattle.law_steps.proofs.NameLemmas.{names_tied}
use Rattle.checkpoint_makes.proofs.MadeLemmas.{map_more}
use Rattle.checkpoint_actors.specs.Counts.{Counts, answered_count, count_in, counts_of, no_counts, with_one}

abbrev Map : Type 0 → Type 0
Map S = HashMap (Bor (List ℕ)) ℕ S

abbrev name_key : Name → Bor (List ℕ)
name_key n = record { ref_ptr = (0, 0); now = n }

pub count_in-empty : {S : Type 0} (m : Map S) → IsEmpty m → count_in m ≡ no_counts
unfolding count_in
count_in-empty m e = λ i n. unwrap_or (lookup (λ (k : Bor (List ℕ)). same_name n k.now) (e i)) 0

raised : (b : Bool) (v : ℕ) (o : Option ℕ) → (b ≡ true → v ≡ unwrap_or o 0 + 1) → unwrap_or (cond b (Some v) o) 0 ≡ one_where b + unwrap_or o 0
raised true v o h = let e : v ≡ unwrap_or o 0 + 1 = h refl in omega (arith, e)
raised false v o h = omega arith

pub count_in-insert : {S : Type 0} (m n : Map S) (k : Bor (List ℕ)) (v : ℕ) → Updates (λ x y. same_name x.now y.now) m n k (Some v) → v ≡ count_in m k.now + 1 → count_in n ≡ with_one (count_in m) k.now
unfolding count_in
count_in-insert m n k v u e = λ i q. (ap (λ o. unwrap_or o 0) (u.0 (name_key q))
    ∙ raised (same_name k.now q) v (get_by (λ (x : Bor (List ℕ)). same_name q x.now) m) (λ tied. e ∙ ap (λ p. count_in m p + 1) (names_tied k.now q tied))) i

counts_last : (hs : List (FutureShape × Name)) (h : FutureShape × Name) → counts_of (hs ++ h ∷ []) ≡ with_one (counts_of hs) h.1
counts_last [] h = refl
counts_last (g ∷ hs) h = λ i n. (ap (λ k. one_where (same_name g.1 n) + k) (ap (λ c. c n) (counts_last hs h)) ∙ turn (one_where (same_name g.1 n)) (one_where (same_name h.1 n)) (counts_of hs n)) i
  where
    turn : (a b c : ℕ) → a + (b + c) ≡ b + (a + c)
    turn a b c = omega arith

one_at_most : (b : Bool) → one_where b ≤ 1
one_at_most true = omega arith
one_at_most false = omega arith

pub counts_small : (hs : List (FutureShape × Name)) (n : Name) → counts_of hs n ≤ length hs
counts_small [] n = omega arith
counts_small (h ∷ hs) n = let le : counts_of hs n ≤ length hs = counts_small hs n in let one : one_where (same_name h.1 n) ≤ 1 = one_at_most (same_name h.1 n) in omega (arith, le, one)

-- one more home of a list
pub counts_more : {X : Type 0} (f : X → FutureShape × Name) (xs : List X) (i : ℕ) (x : X) → i < length xs → x ≡ get_or xs i x → (old new : Counts) → new ≡ with_one old (f x).1 → old ≡ counts_of (map f (take i xs))
    → new ≡ counts_of (map f (take (i + 1) xs))
counts_more f xs i x lt e old new n o =
    n ∙ ap (λ c. with_one c (f x).1) o ∙ sym (counts_last (map f (take i xs)) (f x))
    ∙ ap counts_of (sym (map_more f (take i xs) x)) ∙ ap (λ y. counts_of (map f (take i xs ++ y ∷ []))) e ∙ ap (λ ys. counts_of (map f ys)) (sym (take_more xs i x lt))

-- Lists as the code goes over them

pub take_whole : {X : Type 0} (n : ℕ) (xs : List X) → n ≡ length xs → take n xs ≡ xs
take_whole zero [] e = refl
take_whole zero (x ∷ xs) e = absurd (omega (arith, e))
take_whole (suc n) [] e = refl
take_whole (suc n) (x ∷ xs) e = ap (λ l. x ∷ l) (take_whole n xs (omega (arith, e)))

pub taken_small : {X : Type 0} (n : ℕ) (xs : List X) → length (take n xs) ≤ length xs
taken_small zero xs = omega arith
taken_small (suc n) [] = omega arith
taken_small (suc n) (x ∷ xs) = let le : length (take n xs) ≤ length xs = taken_small n xs in omega (arith, le)

pub item_in : {X : Type 0} (xs : List X) (i : ℕ) (x : X) → i < length xs → x ≡ get_or xs i x → In x xs
item_in [] i x lt e = absurd (omega (arith, lt))
item_in (y ∷ xs) zero x lt e = inl e
item_in (y ∷ xs) (suc i) x lt e = inr (item_in xs i x (omega (arith, lt)) e)

-- one more number
pub answered_more : {X : Type 0} (f : FrozenShape) (g : X → FrozenActivity) (xs : List X) (i : ℕ) (x : X) (ns ms : List ℕ) (n : ℕ) → i < length xs → x ≡ get_or xs i x → ms ≡ ns ++ n ∷ []
    → ns ≡ map (answered_count f) (map g (take i xs)) → n ≡ answered_count f (g x) → ms ≡ map (answered_count f) (map g (take (i + 1) xs))
answered_more f g xs i x ns ms n lt e more old is =
    more ∙ (λ j. old j ++ is j ∷ []) ∙ sym (map_more (answered_count f) (map g (take i xs)) (g x)) ∙ ap (map (answered_count f)) (sym (map_more g (take i xs) x))
    ∙ ap (λ y. map (answered_count f) (map g (take i xs ++ y ∷ []))) e ∙ ap (λ ys. map (answered_count f) (map g ys)) (sym (take_more xs i x lt))
