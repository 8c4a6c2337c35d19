-- Numbers of which one stands beside the others.
use Rattle.std.proofs.Common.{◌≡◌, ◌≢◌, ◌⊎◌, ◌<◌, ◌≤◌, ◌+◌, ◌||◌, ◌∷◌, [], ℕ, Bool, true, false, not, cond, List, Option, Some, None, length, refl, sym, ap, subst, ◌∙◌, inl, inr, ⊎_elim, arith}
use Rattle.std.proofs.lemmas.Bool.{cases_lt, false≢true, false_from_ne_true}
use Rattle.std.proofs.lemmas.Cmp.{nat_cmp_total, tied_itself}
use Rattle.std.specs.Cmp.{nat_cmp_is}
use Rattle.std.specs.BTreeMap.{is_at}
use Rattle.std.specs.BTreeSet as sets
use Rattle.std.specs.BTreeSet.{BTreeSet}
use Rattle.std.specs.FinMap.{nat_cmp-IsAntisymmetric}
use Rattle.std.specs.Ordering.{is_eq, is_gt, nat_cmp}
use Rattle.std.specs.declared.cmp.Ordering.TheVariants.{Greater}
use Rattle.asp_model.specs.Order.{equal_order}
use Rattle.law_chases.proofs.FutureLemmas.{some_is, true_false}
use Rattle.replay_parts.specs.declared.numbers.Numbers.{Numbers}
use Rattle.replay_parts.specs.Numbers.{IsFrontLeast, IsLeastOf, IsLeastTaken, IsLesserThan, IsTooIn, has_key, holds, how_many, is_that, one_or_none}

-- Tests

pub or_left : (a b : Bool) → a ≡ true → (a || b) ≡ true
or_left a b e = ap (λ c. c || b) e

pub or_right : (a b : Bool) → b ≡ true → (a || b) ≡ true
or_right true b e = refl
or_right false b e = e

pub either : (a b : Bool) → (a || b) ≡ true → (a ≡ true) ⊎ (b ≡ true)
either true b e = inl refl
either false b e = inr e

pub neither : (a b : Bool) → a ≡ false → b ≡ false → (a || b) ≡ false
neither a b e f = (λ i. e i || f i)

pub key_apart : (k i : ℕ) → k ≢ i → is_at (nat_cmp k) i ≡ false
key_apart k i d = elim (is_eq (nat_cmp k i)) as (λ b. is_eq (nat_cmp k i) ≡ b → b ≡ false) [ true ↦ λ e. absurd (d (nat_cmp-IsAntisymmetric k i (equal_order (nat_cmp k i) e))) | false ↦ λ e. refl ] refl

pub key_itself : (k : ℕ) → is_at (nat_cmp k) k ≡ true
key_itself k = ap is_eq (tied_itself nat_cmp_total k)

-- from a lower bound
lowest : (k i : ℕ) → is_gt (nat_cmp k i) ≡ false → k ≤ i
lowest k i not = ⊎_elim
    (λ (less : i < k). absurd (true_false (is_gt (nat_cmp k i)) (ap is_gt (sym (nat_cmp_is k i Greater less))) not))
    (λ le. le)
    (cases_lt i k)

lowest_of : (s : BTreeSet ℕ) (k : ℕ) → sets.IsLowerBound nat_cmp s k → (i : ℕ) → has_key i s.keys ≡ true → k ≤ i
lowest_of s k low i has = lowest k i (low i has)

no_key : (i : ℕ) (ks : List ℕ) → (0 < length ks → ⊥) → has_key i ks ≡ false
no_key i [] h = refl
no_key i (k ∷ ks) h = absurd (h (omega arith))

kept : (b c : Bool) → c ≡ true → cond b true c ≡ true
kept true c e = refl
kept false c e = e

still_key : (k i : ℕ) (s t : BTreeSet ℕ) → sets.Updates nat_cmp s t k false → k ≢ i → has_key i t.keys ≡ has_key i s.keys
still_key k i s t u d = u.0 i ∙ ap (λ b. cond b false (has_key i s.keys)) (key_apart k i d)

-- The one beside the others

that_is : (i : ℕ) (o : Option ℕ) → is_that i o ≡ true → o ≡ Some i
that_is i None e = absurd (false≢true e)
that_is i (Some k) e = ap Some (sym (nat_cmp-IsAntisymmetric i k (equal_order (nat_cmp i k) e)))

holds_front : (n : Numbers) (k : ℕ) → n.front ≡ Some k → holds n k ≡ true
holds_front n k e = or_left (is_that k n.front) (has_key k n.others.keys) (ap (is_that k) e ∙ key_itself k)

-- in the one or in the others
module _ (n : Numbers) (i : ℕ) (A : Type 0) where
  pub by_place : holds n i ≡ true → (n.front ≡ Some i → A) → (has_key i n.others.keys ≡ true → A) → A
  by_place h front other = ⊎_elim (λ that. front (that_is i n.front that)) other (either (is_that i n.front) (has_key i n.others.keys) h)

-- The least

pub lesser_than : (n : Numbers) (f k : ℕ) → has_key f n.others.keys ≡ true → sets.IsLowerBound nat_cmp n.others f → (b : Bool) → (b ≡ true → f < k) → (b ≡ false → k ≤ f) → IsLesserThan n k b
lesser_than n f k has low true less not = (f, has, less refl)
lesser_than n f k has low false less not = λ i is. let le = lowest_of n.others f low i is in let more = not refl in omega (arith, le, more)

pub none_lesser_than : (n : Numbers) (k : ℕ) → (0 < length n.others.keys → ⊥) → IsLesserThan n k false
none_lesser_than n k none = λ i is. absurd (true_false (has_key i n.others.keys) is (no_key i n.others.keys none))

pub front_by : (n : Numbers) (k : ℕ) (b : Bool) → n.front ≡ Some k → IsLesserThan n k b → IsFrontLeast n (not b)
front_by n k true e lesser = λ j is. subst (λ m. IsLesserThan n m true) (some_is (sym e ∙ is)) lesser
front_by n k false e low =
    let least : IsLeastOf n k = (holds_front n k e, λ i h. by_place n i (k ≤ i) h (λ front. let same : k ≡ i = some_is (sym e ∙ front) in omega (arith, same)) (low i)) in
    (k, e, least)

pub no_front : (n : Numbers) → n.front ≡ None → IsFrontLeast n false
no_front n none = λ k is. let no : None ≡ Some k = sym none ∙ is in absurd cc

pub other_least : (n : Numbers) (k : ℕ) → IsFrontLeast n false → has_key k n.others.keys ≡ true → sets.IsLowerBound nat_cmp n.others k → IsLeastOf n k
other_least n k lesser has low = (
  or_right (is_that k n.front) (has_key k n.others.keys) has,
  λ i h. by_place n i (k ≤ i) h (λ front. let j = lesser i front in let le = lowest_of n.others k low j.0 j.1 in omega (arith, le, j.2)) (lowest_of n.others k low i),
)

pub none_held : (n : Numbers) → IsFrontLeast n false → (0 < length n.others.keys → ⊥) → (i : ℕ) → holds n i ≡ false
none_held n lesser none i = false_from_ne_true (holds n i) (λ h. by_place n i ⊥ h
    (λ front. let j = lesser i front in true_false (has_key j.0 n.others.keys) j.1 (no_key j.0 n.others.keys none))
    (λ has. true_false (has_key i n.others.keys) has (no_key i n.others.keys none)))

-- It leaves

pub front_taken : (old new : Numbers) (k : ℕ) → IsLeastOf old k → old.front ≡ Some k → new ≡ record old { front = None } → IsLeastTaken old k new
front_taken old new k least e same = (
  least,
  (λ i d. ap (λ (n : Numbers). holds n i) same ∙ sym (ap (λ o. is_that i o || has_key i old.others.keys) e ∙ ap (λ b. b || has_key i old.others.keys) (key_apart i k d))),
  (let after : how_many new ≡ 0 + length old.others.keys = ap how_many same in
      let before : how_many old ≡ 1 + length old.others.keys = ap (λ o. one_or_none o + length old.others.keys) e in
      omega (arith, after, before)),
)

pub first_taken : (old new : Numbers) (k : ℕ) → IsLeastOf old k → sets.Updates nat_cmp old.others new.others k false → new ≡ record old { others = new.others } → how_many new < how_many old → IsLeastTaken old k new
first_taken old new k least u same fewer = (
  least,
  (λ i d. (λ j. is_that i (ap (λ (n : Numbers). n.front) same j) || still_key k i old.others new.others u (λ e. d (sym e)) j)),
  fewer,
)

-- One is put

pub too_same : (n : Numbers) (k : ℕ) → n.front ≡ Some k → IsTooIn n k n
too_same n k e = (holds_front n k e, λ i h. h)

pub too_first : (old new : Numbers) (k : ℕ) → old.front ≡ None → new ≡ record old { front = Some k } → IsTooIn old k new
too_first old new k none same = (
  holds_front new k (ap (λ (n : Numbers). n.front) same),
  λ i h. ap (λ (n : Numbers). holds n i) same ∙ or_right (is_that i (Some k)) (has_key i old.others.keys) (sym (ap (λ o. is_that i o || has_key i old.others.keys) none) ∙ h),
)

pub too_before : (old new : Numbers) (f k : ℕ) → old.front ≡ Some f → new.front ≡ Some k → sets.Updates nat_cmp old.others new.others f true → IsTooIn old k new
too_before old new f k e is u = (
  holds_front new k is,
  λ i h. or_right (is_that i new.front) (has_key i new.others.keys) (by_place old i (has_key i new.others.keys ≡ true) h
      (λ front. let same : f ≡ i = some_is (sym e ∙ front) in u.0 i ∙ ap (λ b. cond b true (has_key i old.others.keys)) (ap (is_at (nat_cmp f)) (sym same) ∙ key_itself f))
      (λ has. u.0 i ∙ kept (is_at (nat_cmp f) i) (has_key i old.others.keys) has)),
)

pub too_behind : (old new : Numbers) (k : ℕ) → new.front ≡ old.front → sets.Updates nat_cmp old.others new.others k true → IsTooIn old k new
too_behind old new k front u = (
  or_right (is_that k new.front) (has_key k new.others.keys) (u.0 k ∙ ap (λ b. cond b true (has_key k old.others.keys)) (key_itself k)),
  λ i h. by_place old i (holds new i ≡ true) h
      (λ there. holds_front new i (front ∙ there))
      (λ has. or_right (is_that i new.front) (has_key i new.others.keys) (u.0 i ∙ kept (is_at (nat_cmp k) i) (has_key i old.others.keys) has)),
)
