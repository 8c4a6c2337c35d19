-- A place's number in an order, as a set answers it.
use Rattle.std.proofs.Common.{◌≡◌, ℕ, suc, ◌+◌, ◌≤◌, Bool, true, false, not, cond, nat_eq, nat_lt, List, [], ◌∷◌, Some, None, length, position, refl, ap, ◌∙◌, arith}
use Rattle.std.specs.Option.{unwrap_or}
use Rattle.std.specs.List.{position_or_len}
use Rattle.std.proofs.lemmas.Bool.Decides.{nat_tests}
use Rattle.asp_model.specs.Parcel.{has_place, number_in}

first_number : (n : ℕ) (order : List ℕ) → position_or_len (nat_eq n) order ≡ number_in order n
first_number n [] = refl
first_number n (x ∷ xs) = elim (nat_eq n x) as (λ b. cond (not b) (1 + position_or_len (nat_eq n) xs) 0 ≡ elim b [ true ↦ 0 | false ↦ suc (number_in xs n) ]) [
  | true ↦ refl
  | false ↦ let e : 1 + position_or_len (nat_eq n) xs ≡ suc (position_or_len (nat_eq n) xs) = omega arith in e ∙ ap suc (first_number n xs)
]

number_most : (n : ℕ) (order : List ℕ) → number_in order n ≤ length order
number_most n [] = omega arith
number_most n (x ∷ xs) = elim (nat_eq n x) as (λ b. elim b [ true ↦ 0 | false ↦ suc (number_in xs n) ] ≤ suc (length xs)) [
  | true ↦ omega arith
  | false ↦ omega (arith, number_most n xs)
]

within_or : (k n : ℕ) → k ≤ n → unwrap_or (cond (nat_lt k n) (Some k) None) n ≡ k
within_or k n le = by (nat_lt k n) refl
  where
    by : (b : Bool) → nat_lt k n ≡ b → unwrap_or (cond b (Some k) None) n ≡ k
    by true e = refl
    by false e = grind (arith, nat_tests)

pub number_found : (n : ℕ) (order : List ℕ) → unwrap_or (position (nat_eq n) order) (length order) ≡ number_in order n
number_found n order =
    ap (λ k. unwrap_or (cond (nat_lt k (length order)) (Some k) None) (length order)) (first_number n order)
    ∙ within_or (number_in order n) (length order) (number_most n order)

sucs_equal : (m n : ℕ) → nat_eq (suc m) (suc n) ≡ nat_eq m n
sucs_equal m n = by (nat_eq m n) refl
  where
    by : (b : Bool) → nat_eq m n ≡ b → nat_eq (suc m) (suc n) ≡ b
    by true e = grind (arith, nat_tests)
    by false e = grind (arith, nat_tests)

-- a place that was not seen has the length as its number
pub new_by_number : (n : ℕ) (order : List ℕ) → nat_eq (number_in order n) (length order) ≡ not (has_place n order)
new_by_number n [] = refl
new_by_number n (x ∷ xs) = elim (nat_eq n x) as (λ b. nat_eq (elim b [ true ↦ 0 | false ↦ suc (number_in xs n) ]) (suc (length xs)) ≡ not (elim b [ true ↦ true | false ↦ has_place n xs ])) [
  | true ↦ let e : nat_eq 0 (suc (length xs)) ≡ false = grind (arith, nat_tests) in e
  | false ↦ sucs_equal (number_in xs n) (length xs) ∙ new_by_number n xs
]
