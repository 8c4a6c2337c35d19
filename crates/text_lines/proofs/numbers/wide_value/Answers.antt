use Rattle.std.proofs.Common.{◌^◌, ◌∙◌, sym, arith}
use Rattle.text_lines.proofs.NumberLemmas.{digit_at_is, more_below, stops_above}
use Rattle.text_lines.proofs.numbers.wide_value.Goals as goal

pub overflow_sub-digit : goal.overflow_sub-digit
overflow_sub-digit c = (digit_at_is c.args.digits.now c.loop-digit.digit-index c.requires c.loop-digit-test.true).0

pub with_digit-requires : goal.with_digit-requires
with_digit-requires c = omega (arith, (digit_at_is c.args.digits.now c.loop-digit.digit-index c.requires c.loop-digit-test.true).1, c.from.ensures)

pub returns-in_err-value : goal.returns-in_err-value
returns-in_err-value c =
    c.from_residual.ensures
    ∙ stops_above (2 ^ 128) c.args.digits.now c.loop-digit.digit-index c.from.result c.loop-digit.value c.requires c.loop-digit-test.true c.from.ensures c.loop-digit.invariant (sym c.in_err-value.was ∙ c.with_digit.ensures)

pub loop-digit-preserved : goal.loop-digit-preserved
loop-digit-preserved c =
    more_below (2 ^ 128) c.args.digits.now c.loop-digit.digit-index c.from.result c.loop-digit.value c.in_ok-value.value c.requires c.loop-digit-test.true c.from.ensures c.loop-digit.invariant (sym c.in_ok-value.was ∙ c.with_digit.ensures)
