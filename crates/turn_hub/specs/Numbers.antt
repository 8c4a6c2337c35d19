-- The numbers of seats, and how often they stand among the views.
use Rattle.atomic_table.specs.Seated.{TableId}
use Rattle.std.specs.Prelude.{◌≡◌, ℕ, zero, suc, ◌+◌, ◌==◌, nat_lt, List, [], ◌∷◌, if◌then◌else◌}

-- how often n stands in the list
abbrev pub times : ℕ → List ℕ → ℕ
times n [] = 0
times n (m ∷ ms) = (if n == m then 1 else 0) + times n ms

-- 1 for a number below the limit, and else 0
abbrev pub once_below : ℕ → ℕ → ℕ
once_below limit n = if nat_lt n limit then 1 else 0

-- what all elements count for, together
abbrev pub total : {A : Type 0} → (A → ℕ) → List A → ℕ
total f [] = 0
total f (x ∷ xs) = f x + total f xs

-- the k numbers behind n, the last first
abbrev pub behind : ℕ → ℕ → List ℕ
behind n zero = []
behind n (suc k) = (n + suc k) ∷ behind n k

-- a seat's own number, which is the first of its numbers
abbrev pub own : List ℕ → ℕ
own [] = 0
own (n ∷ ns) = n

-- a hub's table has one word, which says who has the turn, and one slot
abbrev pub IsSized : TableId → Type 0
IsSized table = (table.words ≡ 1) × (table.slots ≡ 1)
