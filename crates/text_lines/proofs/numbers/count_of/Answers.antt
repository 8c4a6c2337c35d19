use Rattle.text_lines.proofs.NumberLemmas.{a_count}
use Rattle.text_lines.proofs.numbers.count_of.Goals as goal

pub returns-then-is_numeral : goal.returns-then-is_numeral
returns-then-is_numeral c = record { count = a_count c.args.text.now c.is_numeral.result c.value.result c.is_numeral.ensures c.if-is_numeral.true c.if-text-le8.true c.value.ensures }
