-- The front of a lane, and what the fronts show of it.
use Rattle.std.proofs.Common.{◌≡◌, ◌≢◌, ℕ, zero, suc, ◌+◌, List, [], ◌∷◌, ◌++◌, length, length-append, ◌<◌, ◌≤◌, ◌⊎◌, inl, inr, Bool, true, false, eqb, refl, sym, ap, ◌∙◌, subst, T, arith}
use Rattle.std.specs.Prelude.{◌==◌, ◌&&◌, not, Option, Some, None, slice_index}
use Rattle.std.proofs.Math.Seq.{get_or-append_seam}
use Rattle.std.proofs.lemmas.List.{get_or_append_left}
use Rattle.std.proofs.lemmas.Bool.Decides.{eqb_tells, leb_tells}
use Rattle.core_sets.specs.declared.lane.Lane.{Lane}
use Rattle.core_sets.specs.declared.marks.Marks.{Marks}
use Rattle.core_sets.specs.Firsts.{IsFirstFrom}
use Rattle.core_sets.specs.Lanes.{AreShown, IsFront, IsLane, ShownSo, is_first, is_front, none_before, place_at, size_of}
use Rattle.core_sets.specs.Marks.{IsTree, MarkedSo, SameMarks, is_marked, room}

pub clash : {b : Bool} {C : Type 0} → b ≡ true → b ≡ false → C
clash e d = absurd (subst T (sym e ∙ d) tt)

pub both_true : (a b : Bool) → (a && b) ≡ true → (a ≡ true) × (b ≡ true)
both_true true b e = (refl, e)
both_true false b e = clash e refl

-- The first number that passes a test

none_yes : (f : ℕ → Bool) (n : ℕ) → ((j : ℕ) → j < n → f j ≡ false) → none_before f n ≡ true
none_yes f zero none = refl
none_yes f (suc n) none = λ i. not (none n (omega arith) i) && none_yes f n (λ j lt. none j (omega (arith, lt))) i

none_no : (f : ℕ → Bool) (n k : ℕ) → k < n → f k ≡ true → none_before f n ≡ false
none_no f zero k lt e = absurd (omega (arith, lt))
none_no f (suc n) k lt e = elim (eqb_tells k n) [
  | inl same ↦ ap (λ b. not b && none_before f n) (ap f (sym same.1) ∙ e)
  | inr other ↦ ap (λ b. not (f n) && b) (none_no f n k (omega (arith, lt, other.1)) e) ∙ last (f n)
]
  where
    last : (b : Bool) → (not b && false) ≡ false
    last true = refl
    last false = refl

none_at : (f : ℕ → Bool) (n k : ℕ) → none_before f n ≡ true → k < n → f k ≡ false
none_at f n k none lt = by (f k) refl
  where
    by : (b : Bool) → f k ≡ b → b ≡ false
    by true e = clash none (none_no f n k lt e)
    by false e = refl

-- what is first is nothing else
first_only : (f : ℕ → Bool) (k : ℕ) → IsFirstFrom f 0 (Some k) → (i : ℕ) → is_first f i ≡ (i == k)
first_only f k first i = elim (eqb_tells i k) [
  | inl same ↦ here same.1 ∙ sym same.0
  | inr other ↦ elim (leb_tells k i) [
    | inl e ↦ ap (λ b. f i && b) (none_no f i k (omega (arith, e.1, other.1)) first.1) ∙ last (f i) ∙ sym other.0
    | inr e ↦ ap (λ b. b && none_before f i) (first.2 i (omega arith) e.1) ∙ sym other.0
  ]
]
  where
    last : (b : Bool) → (b && false) ≡ false
    last true = refl
    last false = refl

    here : i ≡ k → is_first f i ≡ true
    here e = ap (is_first f) e ∙ (λ j. first.1 j && none_yes f k (λ n lt. first.2 n (omega arith) lt) j)

-- where one passes, there is a first one up to it
pub first_before : (f : ℕ → Bool) (n : ℕ) → none_before f n ≡ false → (j : ℕ) × ((j < n) × (is_first f j ≡ true))
first_before f zero e = clash refl e
first_before f (suc n) e = by (none_before f n) refl (f n) refl e (first_before f n)
  where
    by : (a : Bool) → none_before f n ≡ a → (b : Bool) → f n ≡ b → (not b && a) ≡ false → (none_before f n ≡ false → (j : ℕ) × ((j < n) × (is_first f j ≡ true))) → (j : ℕ) × ((j < suc n) × (is_first f j ≡ true))
    by false a b u h rest = let r = rest a in (r.0, (omega (arith, r.1.0), r.1.1))
    by true a true u h rest = (n, (omega arith, λ i. u i && a i))
    by true a false u h rest = clash refl h

pub first_up_to : (f : ℕ → Bool) (n : ℕ) → f n ≡ true → (j : ℕ) × ((j ≤ n) × (is_first f j ≡ true))
first_up_to f n e = by (none_before f n) refl
  where
    by : (a : Bool) → none_before f n ≡ a → (j : ℕ) × ((j ≤ n) × (is_first f j ≡ true))
    by true a = (n, (omega arith, λ i. e i && a i))
    by false a = let r = first_before f n a in (r.0, (omega (arith, r.1.0), r.1.1))

-- The front

pub front_closed : (l : Lane) → l.closed ≡ true → IsFront l None
front_closed l e i = ap (λ b. not b && is_first (is_marked l.marks) i) e

pub front_open : (l : Lane) (o : Option ℕ) → IsLane l → l.closed ≡ false → IsFirstFrom (is_marked l.marks) 0 o → IsFront l o
front_open l None h e none = λ i. (λ j. not (e j) && (none i (omega arith) j && none_before (is_marked l.marks) i))
front_open l (Some k) h e first = (h.inside k first.1, λ i. ap (λ b. not b && is_first (is_marked l.marks) i) e ∙ first_only (is_marked l.marks) k first i)

-- Fronts that show a lane as it was show it as it is

same_place : (l : Lane) → IsLane l → (i k : ℕ) → i < size_of l → k < size_of l → place_at l i ≡ place_at l k → i ≡ k
same_place l h i k li lk e = elim (eqb_tells i k) [
  | inl same ↦ same.1
  | inr other ↦ elim (leb_tells k i) [
    | inl le ↦ absurd (omega (arith, h.rising k i (omega (arith, le.1, other.1)) li, e))
    | inr lt ↦ absurd (omega (arith, h.rising i k lt.1 lk, e))
  ]
]

-- the test of a place is that of its ordinal
pub ordinal_told : (l : Lane) → IsLane l → (i k : ℕ) → i < size_of l → k < size_of l → (place_at l i == place_at l k) ≡ (i == k)
ordinal_told l h i k li lk = by (eqb_tells i k) (eqb_tells (place_at l i) (place_at l k))
  where
    by : ((eqb i k ≡ true) × (i ≡ k)) ⊎ ((eqb i k ≡ false) × (i ≢ k)) → ((eqb (place_at l i) (place_at l k) ≡ true) × (place_at l i ≡ place_at l k)) ⊎ ((eqb (place_at l i) (place_at l k) ≡ false) × (place_at l i ≢ place_at l k)) → (place_at l i == place_at l k) ≡ (i == k)
    by (inl a) (inl b) = b.0 ∙ sym a.0
    by (inl a) (inr b) = absurd (b.1 (ap (place_at l) a.1))
    by (inr a) (inl b) = absurd (a.1 (same_place l h i k li lk b.1))
    by (inr a) (inr b) = b.0 ∙ sym a.0

-- what the fronts say of an ordinal after one change
shown_of : (l : Lane) → IsLane l → (o : Option ℕ) (mark : Bool) (old new : Marks) → IsFront l o → ShownSo l o mark old new → (i : ℕ) → i < size_of l → is_marked new (place_at l i) ≡ elim (is_front l i) [ true ↦ mark | false ↦ is_marked old (place_at l i) ]
shown_of l h None mark old new none same i lt = same (place_at l i) ∙ sym (ap (λ b. elim b [ true ↦ mark | false ↦ is_marked old (place_at l i) ]) (none i))
shown_of l h (Some k) mark old new front so i lt = so (place_at l i) ∙ ap (λ b. elim b [ true ↦ mark | false ↦ is_marked old (place_at l i) ]) (ordinal_told l h i k lt front.0 ∙ sym (front.1 i))

pub shown_again : (l : Lane) (closed : Bool) (marks : Marks) (before after : Option ℕ) (old between new : Marks) → IsLane l → IsLane (record l { closed = closed; marks = marks }) → AreShown l old → IsFront l before → ShownSo l before false old between → IsFront (record l { closed = closed; marks = marks }) after → ShownSo (record l { closed = closed; marks = marks }) after true between new → AreShown (record l { closed = closed; marks = marks }) new
shown_again l closed marks before after old between new h k shown front hidden next so i lt =
    shown_of (record l { closed = closed; marks = marks }) k after true between new next so i lt
    ∙ ap (λ b. elim (is_front (record l { closed = closed; marks = marks }) i) [ true ↦ true | false ↦ b ]) (shown_of l h before false old between front hidden i lt ∙ gone (is_front l i) (shown i lt))
    ∙ same (is_front (record l { closed = closed; marks = marks }) i)
  where
    gone : (b : Bool) → is_marked old (place_at l i) ≡ b → elim b [ true ↦ false | false ↦ is_marked old (place_at l i) ] ≡ false
    gone true e = refl
    gone false e = e

    same : (b : Bool) → elim b [ true ↦ true | false ↦ false ] ≡ b
    same true = refl
    same false = refl

-- places in rising order
abbrev IsRising : List ℕ → Type 0
IsRising xs = (i j : ℕ) → i < j → j < length xs → slice_index xs i < slice_index xs j

rises : (xs : List ℕ) (x : ℕ) → IsRising xs → ((i : ℕ) → i < length xs → slice_index xs i < x) → IsRising (xs ++ x ∷ [])
rises xs x h last i j less lt = by (eqb_tells j (length xs))
  where
    left : (k : ℕ) → k < length xs → slice_index (xs ++ x ∷ []) k ≡ slice_index xs k
    left k k_in = get_or_append_left xs (x ∷ []) _ k k_in

    here : slice_index (xs ++ x ∷ []) (length xs) ≡ x
    here = get_or-append_seam xs x [] _

    by : ((eqb j (length xs) ≡ true) × (j ≡ length xs)) ⊎ ((eqb j (length xs) ≡ false) × (j ≢ length xs)) → slice_index (xs ++ x ∷ []) i < slice_index (xs ++ x ∷ []) j
    by (inl e) = let i_in : i < length xs = omega (arith, less, e.1) in omega (arith, last i i_in, left i i_in, ap (slice_index (xs ++ x ∷ [])) e.1, here)
    by (inr e) =
        let j_in : j < length xs = omega (arith, lt, e.1, length-append xs (x ∷ [])) in
        let i_in : i < length xs = omega (arith, less, j_in) in
        omega (arith, h i j less j_in, left i i_in, left j j_in)

pub closed_lane : (l : Lane) (closed : Bool) → IsLane l → IsLane (record l { closed = closed })
closed_lane l closed h = record { tree = h.tree; room = h.room; inside = h.inside; rising = h.rising }

pub marked_lane : (l : Lane) (marks : Marks) (ordinal : ℕ) (mark : Bool) → IsLane l → ordinal < size_of l → IsTree marks → room marks ≡ room l.marks → MarkedSo ordinal mark l.marks marks → IsLane (record l { marks = marks })
marked_lane l marks ordinal mark h within tree same so = record {
  tree = tree;
  room = omega (arith, h.room, same);
  inside = λ i e. by i (eqb_tells i ordinal) (sym (so i) ∙ e);
  rising = h.rising;
}
  where
    by : (i : ℕ) → ((eqb i ordinal ≡ true) × (i ≡ ordinal)) ⊎ ((eqb i ordinal ≡ false) × (i ≢ ordinal)) → elim (i == ordinal) [ true ↦ mark | false ↦ is_marked l.marks i ] ≡ true → i < size_of l
    by i (inl a) e = omega (arith, within, a.1)
    by i (inr a) e = h.inside i (sym (ap (λ b. elim b [ true ↦ mark | false ↦ is_marked l.marks i ]) a.0) ∙ e)

-- the places stay, and there may be more room
pub roomier : (l m : Lane) → IsLane l → IsTree m.marks → SameMarks l.marks m.marks → room l.marks ≤ room m.marks → m.places.items ≡ l.places.items → IsLane m
roomier l m h tree same kept places =
    let long : size_of m ≡ size_of l = ap (λ xs. length xs) places in
    record {
      tree = tree;
      room = omega (arith, h.room, kept, long);
      inside = λ i e. let lt = h.inside i (sym (same i) ∙ e) in omega (arith, lt, long);
      rising = subst IsRising (sym places) h.rising;
    }

-- one place more, behind the others
pub longer : (l m : Lane) (place : ℕ) → IsLane l → IsTree m.marks → SameMarks l.marks m.marks → size_of l < room m.marks → ((i : ℕ) → i < size_of l → place_at l i < place) → m.places.items ≡ l.places.items ++ place ∷ [] → IsLane m
longer l m place h tree same within last places =
    let long : size_of m ≡ size_of l + 1 = ap (λ xs. length xs) places ∙ length-append l.places.items (place ∷ []) in
    record {
      tree = tree;
      room = omega (arith, within, long);
      inside = λ i e. let lt = h.inside i (sym (same i) ∙ e) in omega (arith, lt, long);
      rising = subst IsRising (sym places) (rises l.places.items place h.rising last);
    }

-- there are no more places than the next one's number
at_least : (f : ℕ → ℕ) (n : ℕ) → ((i j : ℕ) → i < j → j < n → f i < f j) → (i : ℕ) → i < n → i ≤ f i
at_least f n rising zero lt = omega arith
at_least f n rising (suc i) lt =
    let h = at_least f n rising i (omega (arith, lt)) in
    let next = rising i (suc i) (omega arith) lt in
    omega (arith, h, next)

pub as_many : (l : Lane) (place : ℕ) → IsLane l → ((i : ℕ) → i < size_of l → place_at l i < place) → size_of l ≤ place
as_many l place h last = by (size_of l) refl
  where
    by : (n : ℕ) → size_of l ≡ n → size_of l ≤ place
    by zero e = omega (arith, e)
    by (suc n) e =
        let lt : n < size_of l = omega (arith, e) in
        let at = at_least (place_at l) (size_of l) h.rising n lt in
        let below = last n lt in
        omega (arith, e, at, below)
