-- Places as they are read.
use Rattle.std.specs.Prelude.{ℕ, List, Option, Some, None, map}
use Rattle.std.specs.Borrow.{Bor}
use Rattle.code_table.specs.declared.places.Places.{Places}
use Rattle.code_table.specs.declared.places.Shift.{Shift}
use Rattle.code_table.specs.Moves.{shift_of}

-- where a word goes, if it goes anywhere
abbrev pub shift_in : Option (Bor Shift) → ℕ → ℕ
shift_in None n = n
shift_in (Some shift) n = shift_of shift.now n

-- words as they stand, or each where it goes
abbrev pub shifted : Option (Bor Shift) → List ℕ → List ℕ
shifted None ns = ns
shifted (Some shift) ns = map (shift_of shift.now) ns

-- the places, in order
abbrev pub placed : Places → List ℕ
placed p = shifted p.shift p.words.now
