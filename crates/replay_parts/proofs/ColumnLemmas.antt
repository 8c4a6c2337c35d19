-- Columns: items by numbers.
use Rattle.std.proofs.Common.{◌≡◌, ◌≢◌, ◌<◌, ◌++◌, ◌∷◌, [], ℕ, zero, suc, true, List, Option, Some, None, length, slice_get, slice_set, refl, ap, ◌⊎◌, inl, inr, arith}
use Rattle.std.specs.Prelude.{◌==◌}
use Rattle.std.proofs.lemmas.Bool.Decides.{eqb_tells}
use Rattle.law_chases.proofs.FutureLemmas.{true_false}

pub same_number : (k : ℕ) → (k == k) ≡ true
same_number k = elim (eqb_tells k k) [ inl a ↦ a.0 | inr a ↦ absurd (a.1 refl) ]

pub is_same : (k j : ℕ) → (k == j) ≡ true → k ≡ j
is_same k j e = elim (eqb_tells k j) [ inl a ↦ a.1 | inr a ↦ absurd (true_false (k == j) e a.0) ]

pub number_case : (k j : ℕ) → (k ≡ j) ⊎ (k ≢ j)
number_case k j = elim (eqb_tells k j) [ inl a ↦ inl a.1 | inr a ↦ inr a.1 ]

module _ {X : Type 0} where
  pub set_here : (xs : List X) (k : ℕ) (x : X) → k < length xs → slice_get (slice_set xs k x) k ≡ Some x
  set_here [] k x lt = absurd (omega (arith, lt))
  set_here (y ∷ ys) zero x lt = refl
  set_here (y ∷ ys) (suc k) x lt = set_here ys k x (omega (arith, lt))

  pub set_other : (xs : List X) (j k : ℕ) (x : X) → j ≢ k → slice_get (slice_set xs k x) j ≡ slice_get xs j
  set_other [] j k x d = refl
  set_other (y ∷ ys) zero zero x d = absurd (d refl)
  set_other (y ∷ ys) zero (suc k) x d = refl
  set_other (y ∷ ys) (suc j) zero x d = refl
  set_other (y ∷ ys) (suc j) (suc k) x d = set_other ys j k x (λ e. d (ap suc e))

  -- one more is as what is not there
  pub pushed : {Y : Type 0} (f : Option X → Y) (x : X) → f (Some x) ≡ f None → (xs : List X) (j : ℕ) → f (slice_get (xs ++ x ∷ []) j) ≡ f (slice_get xs j)
  pushed f x e [] zero = e
  pushed f x e [] (suc j) = refl
  pushed f x e (y ∷ ys) zero = refl
  pushed f x e (y ∷ ys) (suc j) = pushed f x e ys j
