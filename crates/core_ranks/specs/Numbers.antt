-- Numbers in sets and lists.
use Rattle.std.specs.Prelude.{◌≡◌, ◌≤◌, ℕ, zero, suc, Bool, true, false, cond, List, [], ◌∷◌, Option, Some, None}
use Rattle.std.specs.List.{list_any}
use Rattle.std.specs.Ordering.{nat_cmp}
use Rattle.std.specs.BTreeMap.{is_at}

abbrev pub has_number : ℕ → List ℕ → Bool
has_number k = list_any (is_at (nat_cmp k))

-- a set of numbers
pub record NumberSet : Type 0 where
  pub keys : List ℕ

-- the numbers below this one that pass the test
abbrev pub numbers_below : ℕ → (ℕ → Bool) → List ℕ
numbers_below zero test = []
numbers_below (suc n) test = cond (test n) (n ∷ numbers_below n test) (numbers_below n test)

-- the least number, or there is none
abbrev pub IsFirst : List ℕ → Option ℕ → Type 0
IsFirst ns None = (k : ℕ) → has_number k ns ≡ false
IsFirst ns (Some n) = (has_number n ns ≡ true) × ((k : ℕ) → has_number k ns ≡ true → n ≤ k)

-- this number is there, or not, and the others stay
abbrev pub Switches : Bool → ℕ → (old new : List ℕ) → Type 0
Switches b n old new = (k : ℕ) → has_number k new ≡ cond (is_at (nat_cmp n) k) b (has_number k old)

abbrev pub Gains : ℕ → (old new : List ℕ) → Type 0
Gains = Switches true

abbrev pub Loses : ℕ → (old new : List ℕ) → Type 0
Loses = Switches false
