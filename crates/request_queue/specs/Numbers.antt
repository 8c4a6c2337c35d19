-- Numbers in a list.
use Rattle.std.specs.Prelude.{◌≡◌, ℕ, ◌≤◌, Bool, true, cond, List, Option, Some}
use Rattle.std.specs.List.{list_any}
use Rattle.std.specs.Ordering.{eq_by_cmp, nat_cmp}
use Rattle.std.specs.BTreeMap.{is_at}

abbrev pub has_number : ℕ → List ℕ → Bool
has_number k = list_any (is_at (nat_cmp k))

-- this number is there or not, and nothing else changes
abbrev pub Turns : ℕ → Bool → List ℕ → List ℕ → Type 0
Turns k b old new = (j : ℕ) → has_number j new ≡ cond (eq_by_cmp nat_cmp k j) b (has_number j old)

-- it is there, and no greater than this number
abbrev pub IsUpTo : ℕ → Option ℕ → Type 0
IsUpTo k o = (n : ℕ) × (o ≡ Some n) × (n ≤ k)

-- the least number of a list
pub record IsLeast (ns : List ℕ) (o : Option ℕ) : Type 0 where
  pub found : (n : ℕ) → o ≡ Some n → has_number n ns ≡ true
  pub least : (k : ℕ) → has_number k ns ≡ true → IsUpTo k o
