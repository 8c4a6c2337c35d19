-- How often a future stands among requests, and places where it stands once.
use Rattle.std.specs.Prelude.{◌≡◌, ◌≢◌, ◌||◌, ℕ, zero, suc, ◌+◌, ◌<◌, ◌≤◌, ◌==◌, ◌++◌, Bool, true, false, cond, T, List, [], ◌∷◌, Some, length, map, filter, slice_get}
use Rattle.std.proofs.Common.{refl, sym, ap, subst, ◌∙◌, arith, inl, inr, ⊎_elim}
use Rattle.std.proofs.lemmas.Bool.{eqb-true}
use Rattle.std.specs.declared.cmp.Ordering.{Ordering}
use Rattle.std.specs.declared.cmp.Ordering.TheVariants.{Less, Equal, Greater}
use Rattle.std.specs.Ordering.{is_eq, is_lt}
use Rattle.std.specs.FinMap.{is_sorted}
use Rattle.std.specs.FinMap.Entries.{below_all}
use Rattle.asp_model.specs.Names.{Name, FutureShape, future_cmp, same_future}
use Rattle.asp_model.specs.Parcel.{has_place}
use Rattle.asp_model.specs.Configuration.{RequestShape}
use Rattle.asp_model.specs.Intent.{Numbered}
use Rattle.law_chases.proofs.FutureLemmas.{no_some, some_is, none_true, future_case, future_itself}
use Rattle.law_steps.specs.Kept.{AreDistinct, mark, one_where}
use Rattle.law_steps.proofs.EntryLemmas.{In, first_of_both, second_of_both}
use Rattle.law_steps.proofs.SoundLemmas.{mark_same, mark_other}
use Rattle.law_frozen.specs.Pending.{pending_of, unnumbered}
use Rattle.law_frozen.specs.Frozen.{spent, has_future, numbers_to}
use Rattle.law_frozen.proofs.FrozenLemmas.{not_numbers}

abbrev pub count : FutureShape → List RequestShape → ℕ
count g [] = 0
count g (r ∷ rs) = mark g r.future + count g rs

count_no : (g : FutureShape) (rs : List RequestShape) → ((j : ℕ) (q : RequestShape) → slice_get rs j ≡ Some q → q.future ≡ g → ⊥) → count g rs ≡ 0
count_no g [] h = refl
count_no g (r ∷ rs) h =
    let here : mark g r.future ≡ 0 = mark_other g r.future (λ p. h 0 r refl (sym p)) in
    let rest : count g rs ≡ 0 = count_no g rs (λ j q e f. h (suc j) q e f) in
    omega (arith, here, rest)

pub count_none : (g : FutureShape) (rs : List RequestShape) → has_future g rs ≡ false → count g rs ≡ 0
count_none g [] h = refl
count_none g (r ∷ rs) h = by (same_future g r.future) (count_none g rs) h
  where
    by : (b : Bool) → (has_future g rs ≡ false → count g rs ≡ 0) → (b || has_future g rs) ≡ false → one_where b + count g rs ≡ 0
    by true rest h = none_true (sym h)
    by false rest h = let none : count g rs ≡ 0 = rest h in omega (arith, none)

-- a future that stands at one place alone is counted once at most
pub count_once : (g : FutureShape) (rs : List RequestShape)
    → ((k j : ℕ) (r q : RequestShape) → slice_get rs k ≡ Some r → slice_get rs j ≡ Some q → r.future ≡ g → q.future ≡ g → k ≡ j) → count g rs ≤ 1
count_once g [] h = omega arith
count_once g (s ∷ rs) h = ⊎_elim first (later (count_once g rs)) (future_case g s.future)
  where
    first : g ≡ s.future → count g (s ∷ rs) ≤ 1
    first p =
        let here : mark g s.future ≡ 1 = mark_same g s.future p in
        let rest : count g rs ≡ 0 = count_no g rs (λ j q e f. let no : 0 ≡ suc j = h 0 (suc j) s q refl e (sym p) f in absurd (omega (arith, no))) in
        omega (arith, here, rest)

    later : (((k j : ℕ) (r q : RequestShape) → slice_get rs k ≡ Some r → slice_get rs j ≡ Some q → r.future ≡ g → q.future ≡ g → k ≡ j) → count g rs ≤ 1) → g ≢ s.future → count g (s ∷ rs) ≤ 1
    later rest apart =
        let here : mark g s.future ≡ 0 = mark_other g s.future apart in
        let le : count g rs ≤ 1 = rest (λ k j r q e f u v. let same : suc k ≡ suc j = h (suc k) (suc j) r q e f u v in omega (arith, same)) in
        omega (arith, here, le)

count_at : (g : FutureShape) (rs : List RequestShape) (j : ℕ) (q : RequestShape) → slice_get rs j ≡ Some q → q.future ≡ g → 1 ≤ count g rs
count_at g [] j q e f = no_some e
count_at g (r ∷ rs) zero q e f = let here : mark g r.future ≡ 1 = mark_same g r.future (sym (ap (λ z. z.future) (some_is e) ∙ f)) in omega (arith, here)
count_at g (r ∷ rs) (suc j) q e f = let rest : 1 ≤ count g rs = count_at g rs j q e f in omega (arith, rest)

-- and what is counted once stands at one place
pub one_place : (g : FutureShape) (rs : List RequestShape) → count g rs ≤ 1 → (k j : ℕ) (r q : RequestShape) → slice_get rs k ≡ Some r → slice_get rs j ≡ Some q → r.future ≡ g → q.future ≡ g → k ≡ j
one_place g [] le k j r q e f u v = no_some e
one_place g (s ∷ rs) le zero zero r q e f u v = refl
one_place g (s ∷ rs) le zero (suc j) r q e f u v =
    let here : mark g s.future ≡ 1 = mark_same g s.future (sym (ap (λ z. z.future) (some_is e) ∙ u)) in
    let rest : 1 ≤ count g rs = count_at g rs j q f v in
    let most : mark g s.future + count g rs ≤ 1 = le in
    absurd (omega (arith, here, rest, most))
one_place g (s ∷ rs) le (suc k) zero r q e f u v =
    let here : mark g s.future ≡ 1 = mark_same g s.future (sym (ap (λ z. z.future) (some_is f) ∙ v)) in
    let rest : 1 ≤ count g rs = count_at g rs k r e u in
    let most : mark g s.future + count g rs ≤ 1 = le in
    absurd (omega (arith, here, rest, most))
one_place g (s ∷ rs) le (suc k) (suc j) r q e f u v =
    let most : mark g s.future + count g rs ≤ 1 = le in
    ap suc (one_place g rs (omega (arith, most)) k j r q e f u v)

pub count_both : (g : FutureShape) (xs ys : List RequestShape) → count g (xs ++ ys) ≡ count g xs + count g ys
count_both g [] ys = omega arith
count_both g (x ∷ xs) ys = let rest : count g (xs ++ ys) ≡ count g xs + count g ys = count_both g xs ys in omega (arith, rest)

abbrev skip_or : Bool → Numbered → List Numbered → List Numbered
skip_or b x xs = elim b [ true ↦ xs | false ↦ x ∷ xs ]

pub count_waiting : (g : FutureShape) (served : List ℕ) (k : ℕ) (rs : List RequestShape) → count g (unnumbered (pending_of served k rs)) ≤ count g rs
count_waiting g served k [] = omega arith
count_waiting g served k (r ∷ rs) = by (has_place k served) (count_waiting g served (suc k) rs)
  where
    by : (b : Bool) → count g (unnumbered (pending_of served (suc k) rs)) ≤ count g rs → count g (unnumbered (skip_or b (k, r) (pending_of served (suc k) rs))) ≤ mark g r.future + count g rs
    by true le = omega (arith, le)
    by false le = omega (arith, le)

-- Homes in order

abbrev pub keys : FutureShape → List (FutureShape × Name) → ℕ
keys g [] = 0
keys g (h ∷ hs) = mark g h.0 + keys g hs

below_none : (g : FutureShape) (hs : List (FutureShape × Name)) → T (below_all future_cmp g hs) → keys g hs ≡ 0
below_none g [] h = refl
below_none g (e ∷ es) h =
    let here : mark g e.0 ≡ 0 = by (future_cmp g e.0) (first_of_both (is_lt (future_cmp g e.0)) (below_all future_cmp g es) h) in
    let rest : keys g es ≡ 0 = below_none g es (second_of_both (is_lt (future_cmp g e.0)) (below_all future_cmp g es) h) in
    omega (arith, here, rest)
  where
    by : (r : Ordering) → T (is_lt r) → one_where (is_eq r) ≡ 0
    by Less h = refl
    by Equal h = absurd h
    by Greater h = refl

pub keys_once : (g : FutureShape) (hs : List (FutureShape × Name)) → T (is_sorted future_cmp hs) → keys g hs ≤ 1
keys_once g [] h = omega arith
keys_once g (e ∷ es) h = ⊎_elim
    (λ p.
    let here : mark g e.0 ≡ 1 = mark_same g e.0 p in
    let rest : keys g es ≡ 0 = subst (λ f. keys f es ≡ 0) (sym p) (below_none e.0 es (first_of_both (below_all future_cmp e.0 es) (is_sorted future_cmp es) h)) in
    omega (arith, here, rest))
    (λ a.
    let here : mark g e.0 ≡ 0 = mark_other g e.0 a in
    let rest : keys g es ≤ 1 = keys_once g es (second_of_both (below_all future_cmp e.0 es) (is_sorted future_cmp es) h) in
    omega (arith, here, rest))
    (future_case g e.0)

pub count_spent : (g : FutureShape) (test : FutureShape × Name → Bool) (hs : List (FutureShape × Name)) → count g (map spent (map (λ h. h.0) (filter test hs))) ≤ keys g hs
count_spent g test [] = omega arith
count_spent g test (h ∷ hs) = by (test h) (count_spent g test hs)
  where
    by : (b : Bool) → count g (map spent (map (λ h. h.0) (filter test hs))) ≤ keys g hs → count g (map spent (map (λ h. h.0) (cond b (h ∷ filter test hs) (filter test hs)))) ≤ mark g h.0 + keys g hs
    by true le = omega (arith, le)
    by false le = omega (arith, le)

-- Places

pub slice_front : (xs ys : List RequestShape) (k : ℕ) (r : RequestShape) → slice_get xs k ≡ Some r → slice_get (xs ++ ys) k ≡ Some r
slice_front [] ys k r h = no_some h
slice_front (x ∷ xs) ys zero r h = h
slice_front (x ∷ xs) ys (suc k) r h = slice_front xs ys k r h

pub slice_behind : (xs ys : List RequestShape) (k : ℕ) → slice_get (xs ++ ys) (length xs + k) ≡ slice_get ys k
slice_behind [] ys k = ap (slice_get ys) (zero_plus k)
  where
    zero_plus : (k : ℕ) → 0 + k ≡ k
    zero_plus k = omega arith
slice_behind (x ∷ xs) ys k = ap (slice_get (x ∷ xs ++ ys)) (suc_plus (length xs) k) ∙ slice_behind xs ys k
  where
    suc_plus : (n k : ℕ) → suc n + k ≡ suc (n + k)
    suc_plus n k = omega arith

pub slice_below : (xs : List RequestShape) (k : ℕ) (r : RequestShape) → slice_get xs k ≡ Some r → k < length xs
slice_below [] k r h = no_some h
slice_below (x ∷ xs) zero r h = omega arith
slice_below (x ∷ xs) (suc k) r h = let le : k < length xs = slice_below xs k r h in omega (arith, le)

-- what waits stands at a number that was not served
pub waiting_at : (served : List ℕ) (k : ℕ) (rs : List RequestShape) (r : RequestShape) → In r (unnumbered (pending_of served k rs)) → (i : ℕ) × (slice_get rs i ≡ Some r) × (has_place (i + k) served ≡ false)
waiting_at served k [] r i = absurd i
waiting_at served k (q ∷ rs) r i = by (has_place k served) refl (waiting_at served (suc k) rs r) i
  where
    later : (i : ℕ) × (slice_get rs i ≡ Some r) × (has_place (i + suc k) served ≡ false) → (i : ℕ) × (slice_get (q ∷ rs) i ≡ Some r) × (has_place (i + k) served ≡ false)
    later x = let p : suc x.0 + k ≡ x.0 + suc k = omega arith in (suc x.0, x.1, ap (λ n. has_place n served) p ∙ x.2)

    by : (b : Bool) → has_place k served ≡ b → (In r (unnumbered (pending_of served (suc k) rs)) → (i : ℕ) × (slice_get rs i ≡ Some r) × (has_place (i + suc k) served ≡ false))
        → In r (unnumbered (skip_or b (k, q) (pending_of served (suc k) rs))) → (i : ℕ) × (slice_get (q ∷ rs) i ≡ Some r) × (has_place (i + k) served ≡ false)
    by true e rest i = later (rest i)
    by false e rest i = let z : 0 + k ≡ k = omega arith in ⊎_elim (λ p. (0, ap Some (sym p), ap (λ n. has_place n served) z ∙ e)) (λ j. later (rest j)) i

-- and what was not served waits
pub at_waiting : (served : List ℕ) (k : ℕ) (rs : List RequestShape) (i : ℕ) (r : RequestShape) → slice_get rs i ≡ Some r → has_place (i + k) served ≡ false → In r (unnumbered (pending_of served k rs))
at_waiting served k [] i r h new = no_some h
at_waiting served k (q ∷ rs) zero r h new = let z : k ≡ 0 + k = omega arith in by (has_place k served) (ap (λ n. has_place n served) z ∙ new)
  where
    by : (b : Bool) → b ≡ false → In r (unnumbered (skip_or b (k, q) (pending_of served (suc k) rs)))
    by true e = none_true (sym e)
    by false e = inl (sym (some_is h))
at_waiting served k (q ∷ rs) (suc i) r h new =
    let p : i + suc k ≡ suc i + k = omega arith in
    by (has_place k served) (at_waiting served (suc k) rs i r h (ap (λ n. has_place n served) p ∙ new))
  where
    by : (b : Bool) → In r (unnumbered (pending_of served (suc k) rs)) → In r (unnumbered (skip_or b (k, q) (pending_of served (suc k) rs)))
    by true i = i
    by false i = inr i

pub has_there : (g : FutureShape) (rs : List RequestShape) (r : RequestShape) → In r rs → r.future ≡ g → has_future g rs ≡ true
has_there g [] r i e = absurd i
has_there g (q ∷ rs) r i e = ⊎_elim here (later (has_there g rs r)) i
  where
    or_true : (b : Bool) → (b || true) ≡ true
    or_true true = refl
    or_true false = refl

    here : r ≡ q → has_future g (q ∷ rs) ≡ true
    here p = ap (λ b. b || has_future g rs) (ap (same_future g) (sym (ap (λ z. z.future) p) ∙ e) ∙ future_itself g)

    later : (In r rs → r.future ≡ g → has_future g rs ≡ true) → In r rs → has_future g (q ∷ rs) ≡ true
    later rest j = ap (λ b. same_future g q.future || b) (rest j e) ∙ or_true (same_future g q.future)

-- Numbers

pub numbers_apart : (j : ℕ) → AreDistinct (numbers_to j)
numbers_apart zero = tt
numbers_apart (suc j) = (not_numbers j j (omega arith), numbers_apart j)

pub below_numbers : (k j : ℕ) → has_place k (numbers_to j) ≡ true → k < j
below_numbers k zero h = none_true h
below_numbers k (suc j) h = by (k == j) refl (below_numbers k j) h
  where
    by : (b : Bool) → (k == j) ≡ b → (has_place k (numbers_to j) ≡ true → k < j) → elim b [ true ↦ true | false ↦ has_place k (numbers_to j) ] ≡ true → k < suc j
    by true e rest h = let same : k ≡ j = eqb-true k j e in omega (arith, same)
    by false e rest h = let lt : k < j = rest h in omega (arith, lt)
