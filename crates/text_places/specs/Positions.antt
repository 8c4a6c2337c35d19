-- Where a byte of a text stands, as people count: lines end at a line feed, and columns count bytes.
use Rattle.std.specs.Prelude.{ℕ, ◌+◌, ◌-◌, min, nat_eq, Bool, not, List, length, take, drop, count_by}
use Rattle.std.specs.List.{position_or_len, suffix_len}
use Rattle.text_places.specs.declared.position.Position.{Position}

-- a line feed
abbrev pub is_feed : ℕ → Bool
is_feed b = nat_eq b 10

abbrev pub is_other : ℕ → Bool
is_other b = not (is_feed b)

-- the number of a byte's line, from 1: the line feeds before it and one
abbrev pub line_number : List ℕ → ℕ → ℕ
line_number bytes at = count_by is_feed (take at bytes) + 1

-- how many bytes stand before it in its line: those behind the last line feed before it
abbrev pub indent : List ℕ → ℕ → ℕ
indent bytes at = suffix_len is_other (take at bytes)

-- the line and the column of a byte, both from 1
abbrev pub position_at : List ℕ → ℕ → Position
position_at bytes at = record { line = line_number bytes at; column = indent bytes at + 1 }

-- the last bytes of a text, so many
abbrev pub last_of : ℕ → List ℕ → List ℕ
last_of n bytes = drop (length bytes - n) bytes

-- the last bytes before a place in its line, at most so many
abbrev pub lead : ℕ → List ℕ → ℕ → List ℕ
lead most bytes at = last_of (min (indent bytes at) most) (take at bytes)

-- the bytes from a place on in its line, at most so many
abbrev pub tail : ℕ → List ℕ → ℕ → List ℕ
tail most bytes at = take (min (position_or_len is_feed (drop at bytes)) most) (drop at bytes)
