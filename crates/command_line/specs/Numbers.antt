-- Numbers in words.
use Rattle.std.specs.Prelude.{ℕ, nat_le, ◌&&◌, if◌then◌else◌, Bool, length, Option, Some, None}
use Rattle.std.specs.List.{list_all}
use Rattle.std.specs.Char.{is_ascii_digit}
use Rattle.std.specs.Str.Parse.{digits_value}
use Rattle.clap.specs.Walk.{Text}

-- 1 to 8 decimal digits
abbrev pub is_number : Text → Bool
is_number text =
    nat_le 1 (length text) && (nat_le (length text) 8 && list_all is_ascii_digit text)

-- the number that the text writes, where it is one from the least to the most
abbrev pub number_in : ℕ → ℕ → Text → Option ℕ
number_in least most text =
    if is_number text && (nat_le least (digits_value 10 text) && nat_le (digits_value 10 text) most)
    then Some (digits_value 10 text) else None
