use Rattle.std.proofs.Common.{◌≡◌, ◌^◌, Some, take}
use Rattle.std.specs.Str.Parse.{digits_value}
use Rattle.text_lines.specs.Numbers.{only_below}
use Rattle.text_lines.proofs.numbers.wide_value.Given as goal

abbrev pub invariant-loop-digit : goal.invariant-loop-digit
invariant-loop-digit l = Some l.value ≡ only_below (2 ^ 128) (Some (digits_value 10 (take l.digit-index l.digits)))
