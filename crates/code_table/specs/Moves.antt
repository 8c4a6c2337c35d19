-- Where places go.
use Rattle.std.specs.Prelude.{ℕ, zero, suc, ◌+◌, ◌-◌, ◌^◌, min}
use Rattle.asp_model.specs.Parcel.{number_in}
use Rattle.code_table.specs.declared.moves.Moves.{Moves}
use Rattle.code_table.specs.declared.moves.Moves.TheVariants as moves
use Rattle.code_table.specs.declared.places.Shift.{Shift}
use Rattle.code_table.specs.declared.places.Shift.TheVariants as shifts

-- the sum, or the greatest place where it is greater
abbrev pub raised : ℕ → ℕ → ℕ
raised n size = min (n + size) (2 ^ 64 - 1)

-- the root's number to a place, and the others up
abbrev pub raised_at : (size root : ℕ) → ℕ → ℕ
raised_at size root zero = root
raised_at size root (suc n) = raised n size

abbrev pub shift_of : Shift → ℕ → ℕ
shift_of (shifts.Up size) n = raised n size
shift_of (shifts.RootTo root size) n = raised_at size root n

abbrev pub move_of : Moves → ℕ → ℕ
move_of (moves.ToFew order) n = number_in order.now n
move_of (moves.ToNumber order) n = number_in order.now.keys n
move_of (moves.By shift) n = shift_of shift n
move_of moves.Stay n = n
