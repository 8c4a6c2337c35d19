-- What each seat has out, in rows by the seats' numbers.
use Rattle.std.specs.Prelude.{ℕ, ◌+◌, List, [], ◌∷◌, Option, Some, None, slice_index_or}

-- the number and the burst that a seat has out, if it has a lease, and how many grants are kept for it
abbrev pub Row : Type 0
Row = Option (ℕ × ℕ × ℕ)

abbrev pub row : List Row → ℕ → Row
row rows seat = slice_index_or rows seat None

abbrev pub rounds_of : Row → ℕ
rounds_of None = 0
rounds_of (Some x) = x.2

-- how many grants are kept for all seats
abbrev pub rounds_in : List Row → ℕ
rounds_in [] = 0
rounds_in (o ∷ rows) = rounds_of o + rounds_in rows
