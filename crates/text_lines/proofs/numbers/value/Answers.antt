use Rattle.std.proofs.Common.{refl, get_or}
use Rattle.text_lines.proofs.NumberLemmas.{digit_at_is, value_more}
use Rattle.text_lines.proofs.numbers.value.Goals as goal

pub overflow_sub-digit : goal.overflow_sub-digit
overflow_sub-digit c = (digit_at_is c.args.digits.now c.loop-digit.digit-index c.requires c.loop-digit-test.true).0

pub loop-digit-preserved : goal.loop-digit-preserved
loop-digit-preserved c =
    let ds = c.args.digits.now in
    let i = c.loop-digit.digit-index in
    let more = value_more ds i (get_or ds i 0) c.loop-digit.value 4294967296 c.requires c.loop-digit-test.true refl c.loop-digit.invariant in
    cc more
