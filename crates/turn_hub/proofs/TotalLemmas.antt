-- Sums over views: a view is changed, or comes, or is the only one that counts.
use Rattle.std.proofs.Common.{◌≡◌, ◌≢◌, ℕ, zero, suc, ◌+◌, ◌≤◌, List, [], ◌∷◌, ◌++◌, set, sym, refl, ap, arith}
use mathlib.Core.Option.{some, some-injective, some-ne-none}
use lib.ListN.{get_elem?}
use Rattle.turn_hub.specs.Numbers.{total}

module _ {A : Type 0} (f : A → ℕ) where
  pub total-set : (xs : List A) (i : ℕ) (a b : A) → get_elem? xs i ≡ some a → total f (set xs i b) + f a ≡ total f xs + f b
  total-set [] i a b at = absurd (some-ne-none a (sym at))
  total-set (x ∷ xs) zero a b at = let is : f x ≡ f a = ap f (some-injective x a at) in omega arith
  total-set (x ∷ xs) (suc i) a b at = let below = total-set xs i a b at in omega arith

  pub total-snoc : (xs : List A) (b : A) → total f (xs ++ b ∷ []) ≡ total f xs + f b
  total-snoc [] b = omega arith
  total-snoc (x ∷ xs) b = let below = total-snoc xs b in omega arith

  -- no element counts for more than all
  pub total_at : (xs : List A) (i : ℕ) (a : A) → get_elem? xs i ≡ some a → f a ≤ total f xs
  total_at [] i a at = absurd (some-ne-none a (sym at))
  total_at (x ∷ xs) zero a at = let is : f x ≡ f a = ap f (some-injective x a at) in omega arith
  total_at (x ∷ xs) (suc i) a at = let below = total_at xs i a at in omega arith

  -- nor do two
  pub total_two : (xs : List A) (i j : ℕ) (a b : A) → i ≢ j → get_elem? xs i ≡ some a → get_elem? xs j ≡ some b → f a + f b ≤ total f xs
  total_two [] i j a b ne at also = absurd (some-ne-none a (sym at))
  total_two (x ∷ xs) zero zero a b ne at also = absurd (ne refl)
  total_two (x ∷ xs) zero (suc j) a b ne at also = let is : f x ≡ f a = ap f (some-injective x a at) in let least = total_at xs j b also in omega arith
  total_two (x ∷ xs) (suc i) zero a b ne at also = let is : f x ≡ f b = ap f (some-injective x b also) in let least = total_at xs i a at in omega arith
  total_two (x ∷ xs) (suc i) (suc j) a b ne at also = let below = total_two xs i j a b (λ same. ne (ap suc same)) at also in omega arith

-- where what has no f has no g either, one that has all f has all g
module _ {A : Type 0} (f g : A → ℕ) (bare : (a : A) → f a ≡ 0 → g a ≡ 0) where
  all_bare : (xs : List A) → total f xs ≡ 0 → total g xs ≡ 0
  all_bare [] none = refl
  all_bare (x ∷ xs) none = let first : f x ≡ 0 = omega arith in let here = bare x first in let below = all_bare xs (omega arith) in omega arith

  pub total_alone : (xs : List A) (i : ℕ) (a : A) → get_elem? xs i ≡ some a → total f xs ≡ f a → total g xs ≡ g a
  total_alone [] i a at all = absurd (some-ne-none a (sym at))
  total_alone (x ∷ xs) zero a at all =
      let is : f x ≡ f a = ap f (some-injective x a at) in
      let same : g x ≡ g a = ap g (some-injective x a at) in
      let below = all_bare xs (omega arith) in omega arith
  total_alone (x ∷ xs) (suc i) a at all =
      let least = total_at f xs i a at in
      let first : f x ≡ 0 = omega arith in
      let here = bare x first in
      let below = total_alone xs i a at (omega arith) in omega arith
