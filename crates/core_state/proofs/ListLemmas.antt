-- Names and seats in lists.
use Rattle.std.proofs.Common.{◌≡◌, ◌≢◌, ◌==◌, ◌<◌, ℕ, zero, suc, Bool, true, false, List, [], ◌∷◌, Option, Some, None, length, slice_get, slice_set, refl, sym, ap, arith}
use Rattle.std.proofs.lemmas.Bool.{eqb-true, false_from_ne_true}
use Rattle.asp_model.specs.Names.{Name}
use Rattle.asp_model.specs.Step.{name_at}
use Rattle.law_chases.proofs.FutureLemmas.{no_some, true_false}
use Rattle.core_seats.specs.Seats.{In, Out, SeatShape}
use Rattle.core_state.specs.Cores.{count_in}

-- the model's lists of names are read as all lists are
pub name_got : (ns : List Name) (k : ℕ) → name_at ns k ≡ slice_get ns k
name_got [] k = refl
name_got (n ∷ ns) zero = refl
name_got (n ∷ ns) (suc k) = name_got ns k

pub name_within : (ns : List Name) (k : ℕ) → k < length ns → (n : Name) × (name_at ns k ≡ Some n)
name_within [] k h = absurd (omega (arith, h))
name_within (n ∷ ns) zero h = (n, refl)
name_within (n ∷ ns) (suc k) h = name_within ns k (omega (arith, h))

pub within_name : (ns : List Name) (k : ℕ) (n : Name) → name_at ns k ≡ Some n → k < length ns
within_name [] k n h = no_some h
within_name (m ∷ ns) zero n h = omega arith
within_name (m ∷ ns) (suc k) n h = omega (arith, within_name ns k n h)

module _ {A : Type 0} where
  pub got_set : (xs : List A) (k : ℕ) (x : A) → k < length xs → slice_get (slice_set xs k x) k ≡ Some x
  got_set [] k x h = absurd (omega (arith, h))
  got_set (y ∷ ys) zero x h = refl
  got_set (y ∷ ys) (suc k) x h = got_set ys k x (omega (arith, h))

  pub got_other : (xs : List A) (k j : ℕ) (x : A) → j ≢ k → slice_get (slice_set xs k x) j ≡ slice_get xs j
  got_other [] k j x h = refl
  got_other (y ∷ ys) zero zero x h = absurd (h refl)
  got_other (y ∷ ys) zero (suc j) x h = refl
  got_other (y ∷ ys) (suc k) zero x h = refl
  got_other (y ∷ ys) (suc k) (suc j) x h = got_other ys k j x (λ e. h (ap suc e))

  pub got_within : (xs : List A) (k : ℕ) (x : A) → slice_get xs k ≡ Some x → k < length xs
  got_within [] k x h = no_some h
  got_within (y ∷ ys) zero x h = omega arith
  got_within (y ∷ ys) (suc k) x h = omega (arith, got_within ys k x h)

module _ {X R : Type 0} where
  -- one less is in when one is taken, who was in
  pub one_less : (seats : List (SeatShape X R)) (k : ℕ) (x : X) (came : List R) → slice_get seats k ≡ Some (In x) → suc (count_in (slice_set seats k (Out came))) ≡ count_in seats
  one_less [] k x came h = no_some h
  one_less (In y ∷ seats) zero x came h = refl
  one_less (Out rs ∷ seats) zero x came h = absurd (out_in h)
    where
      is_here : Option (SeatShape X R) → Bool
      is_here (Some (In y)) = true
      is_here (Some (Out rs)) = false
      is_here None = false

      out_in : Some (Out rs) ≡ Some (In x) → ⊥
      out_in e = true_is_false (sym (ap is_here e))
        where
          true_is_false : true ≡ false → ⊥
          true_is_false e = cc
  one_less (In y ∷ seats) (suc k) x came h = ap suc (one_less seats k x came h)
  one_less (Out rs ∷ seats) (suc k) x came h = one_less seats k x came h

pub numbers_apart : (j k : ℕ) → j ≢ k → (j == k) ≡ false
numbers_apart j k apart = false_from_ne_true (j == k) (λ e. apart (eqb-true j k e))

-- one number is another, or is not
pub number_case : {C : Type 0} (j k : ℕ) → (j ≡ k → C) → (j ≢ k → C) → C
number_case {C} j k same apart = by (j == k) refl
  where
    by : (b : Bool) → (j == k) ≡ b → C
    by true e = same (eqb-true j k e)
    by false e = apart (λ is. true_false (j == k) (itself is) e)
      where
        itself : j ≡ k → (j == k) ≡ true
        itself is = grind (arith, is)

pub some_more : (n : ℕ) → n ≢ 0 → 0 < n
some_more zero h = absurd (h refl)
some_more (suc n) h = omega arith

pub no_items : {A : Type 0} (xs : List A) → length xs ≡ 0 → xs ≡ []
no_items [] h = refl
no_items (x ∷ xs) h = absurd (omega (arith, h))
