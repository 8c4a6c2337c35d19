-- Numbers of which one stands beside the others.
use Rattle.std.specs.Prelude.{◌≡◌, ◌≢◌, ◌≤◌, ◌<◌, ◌+◌, ◌||◌, ℕ, Bool, true, false, List, Option, Some, None, length}
use Rattle.std.specs.List.{list_any}
use Rattle.std.specs.BTreeMap.{is_at}
use Rattle.std.specs.Ordering.{nat_cmp}
use Rattle.replay_parts.specs.declared.numbers.Numbers.{Numbers}

abbrev pub has_key : ℕ → List ℕ → Bool
has_key k = list_any (is_at (nat_cmp k))

abbrev pub is_that : ℕ → Option ℕ → Bool
is_that k None = false
is_that k (Some i) = is_at (nat_cmp k) i

-- a number is beside or among the others
abbrev pub holds : Numbers → ℕ → Bool
holds n k = is_that k n.front || has_key k n.others.keys

abbrev pub one_or_none : Option ℕ → ℕ
one_or_none None = 0
one_or_none (Some k) = 1

-- how many there are, where the one beside may stand among the others too
abbrev pub how_many : Numbers → ℕ
how_many n = one_or_none n.front + length n.others.keys

-- it is there, and none is less
abbrev pub IsLeastOf : Numbers → ℕ → Type 0
IsLeastOf n k = (holds n k ≡ true) × ((i : ℕ) → holds n i ≡ true → k ≤ i)

-- one of the others is less than this number, or none is
abbrev pub IsLesserThan : Numbers → ℕ → Bool → Type 0
IsLesserThan n k true = (i : ℕ) × (has_key i n.others.keys ≡ true) × (i < k)
IsLesserThan n k false = (i : ℕ) → has_key i n.others.keys ≡ true → k ≤ i

-- the one beside the others is the least; or, if there is one, one of the others is less
abbrev pub IsFrontLeast : Numbers → Bool → Type 0
IsFrontLeast n true = (k : ℕ) × (n.front ≡ Some k) × IsLeastOf n k
IsFrontLeast n false = (k : ℕ) → n.front ≡ Some k → IsLesserThan n k true

-- a number is there, and those that were are so still
abbrev pub IsTooIn : Numbers → ℕ → Numbers → Type 0
IsTooIn old k new = (holds new k ≡ true) × ((i : ℕ) → holds old i ≡ true → holds new i ≡ true)

-- the least leaves, so that there are fewer, and the others stay
abbrev pub IsLeastTaken : Numbers → ℕ → Numbers → Type 0
IsLeastTaken old k new = IsLeastOf old k × ((i : ℕ) → i ≢ k → holds new i ≡ holds old i) × (how_many new < how_many old)
