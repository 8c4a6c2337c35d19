-- A name as one number, which its hash is made of.
use Rattle.std.specs.Prelude.{◌≡◌, ℕ, Bool, ◌&&◌, true, nat_eq, List, [], ◌∷◌, ◌+◌, ◌*◌, ◌%◌, ◌^◌}
use Rattle.std.proofs.Common.{eqb-true}
use Rattle.std.specs.Cmp.{first_so, second_so}
use Rattle.asp_model.specs.Order.{same_name_same}
use Rattle.asp_model.specs.Names.{Name, same_name}

-- a number, and one more behind it
abbrev pub mixed_with : ℕ → ℕ → ℕ
mixed_with h x = (h * 11400714819323198485 % 2 ^ 64 + x) % 2 ^ 64

-- a number, and those of a list behind it
abbrev pub mixed_from : ℕ → List ℕ → ℕ
mixed_from h [] = h
mixed_from h (x ∷ xs) = mixed_from (mixed_with h x) xs

abbrev pub name_number : Name → ℕ
name_number n = mixed_from 0 n

abbrev pub future_number : Name → ℕ → ℕ
future_number by index = mixed_with (name_number by) index

-- equal names of futures have one number
pub same_number : (a b : Name) (i j : ℕ) → (same_name a b && nat_eq i j) ≡ true → future_number a i ≡ future_number b j
same_number a b i j e =
    let names = same_name_same a b (first_so (same_name a b) (nat_eq i j) e) in
    let numbers = eqb-true i j (second_so (same_name a b) (nat_eq i j) e) in
    λ k. future_number (names k) (numbers k)
