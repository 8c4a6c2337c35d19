-- A row is cleared, or filled.
use Rattle.std.proofs.Common.{◌≡◌, ◌≢◌, ◌⊎◌, ◌+◌, ◌<◌, ◌≤◌, ℕ, zero, suc, List, [], ◌∷◌, length, set, get_or, refl, ap, inl, inr, ⊎_elim, Option, None, Some, arith}
use Rattle.std.proofs.lemmas.Option.{none-some}
use Rattle.race_desks.specs.LeaseRows.{Row, rounds_in, rounds_of, row}

module _ {A : Type 0} where
  pub got_set : (xs : List (Option A)) (i n : ℕ) (o : Option A) (x : A) → get_or (set xs i o) n None ≡ Some x → ((n ≡ i) × (o ≡ Some x)) ⊎ ((n ≢ i) × (get_or xs n None ≡ Some x))
  got_set [] i n o x e = absurd (none-some x e)
  got_set (y ∷ ys) zero zero o x e = inl (refl, e)
  got_set (y ∷ ys) zero (suc n) o x e = inr ((λ h. omega arith), e)
  got_set (y ∷ ys) (suc i) zero o x e = inr ((λ h. omega arith), e)
  got_set (y ∷ ys) (suc i) (suc n) o x e = ⊎_elim (λ t. inl (ap suc t.0, t.1)) (λ t. let ne = t.0 in inr ((λ h. ne (omega arith)), t.1)) (got_set ys i n o x e)

  pub else_set : (xs : List (Option A)) (i n : ℕ) (o : Option A) → n ≢ i → get_or (set xs i o) n None ≡ get_or xs n None
  else_set [] i n o ne = refl
  else_set (y ∷ ys) zero zero o ne = absurd (ne refl)
  else_set (y ∷ ys) zero (suc n) o ne = refl
  else_set (y ∷ ys) (suc i) zero o ne = refl
  else_set (y ∷ ys) (suc i) (suc n) o ne = else_set ys i n o (λ e. ne (ap suc e))

-- another row in the place of one
pub rounds_set : (rows : List Row) (i : ℕ) (o : Row) → i < length rows → rounds_in (set rows i o) + rounds_of (row rows i) ≡ rounds_in rows + rounds_of o
rounds_set [] i o low = absurd (none_low i low)
  where
    none_low : (i : ℕ) → i < 0 → ⊥
    none_low i h = omega (arith, h)
rounds_set (y ∷ ys) zero o low = omega arith
rounds_set (y ∷ ys) (suc i) o low = omega (arith, rounds_set ys i o (omega (arith, low)))

-- where nothing is out, nothing is kept
pub no_rounds : (rows : List Row) → ((n : ℕ) → row rows n ≡ None) → rounds_in rows ≡ 0
no_rounds [] none = refl
no_rounds (o ∷ rows) none = omega (arith, ap rounds_of (none 0), no_rounds rows (λ n. none (suc n)))

-- no more is kept for one seat than for all
pub rounds_at : (rows : List Row) (i : ℕ) → i < length rows → rounds_of (row rows i) ≤ rounds_in rows
rounds_at rows i low = let sum = rounds_set rows i None low in omega (arith, sum)
