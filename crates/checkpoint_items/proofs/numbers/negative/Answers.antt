use Rattle.std.proofs.Common.{◌≡◌, ◌-◌, negsuc, ◌-ℤ◌, to_z, of_z, w64, arith}
use Rattle.std.proofs.lemmas.Int.{ints}
use Rattle.checkpoint_items.proofs.NumberLemmas.{negated}
use Rattle.text_lines.specs.Numbers.{number_below}
use Rattle.checkpoint_items.proofs.numbers.negative.Goals as goal

pub returns : goal.returns
returns c =
    let n = c.in_ok-number.number in
    let is : to_z w64 (of_z w64 (negsuc 0 -ℤ to_z w64 (n - 1))) ≡ negsuc (n - 1) = omega (arith, ints, c.in_ok-number.ensures.within, c.if-number-eq0.false) in
    λ ws. negated ws n _ (number_below 9223372036854775809 c.args.digits.now) c.in_ok-number.ensures.number c.if-number-eq0.false is
