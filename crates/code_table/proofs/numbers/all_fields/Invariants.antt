use Rattle.std.proofs.Common.{map}
use Rattle.code_table.proofs.NumberLemmas.{AreFrom}
use Rattle.code_table.proofs.numbers.all_fields.Given as goal

abbrev pub invariant-loop-i : goal.invariant-loop-i
invariant-loop-i l = AreFrom l.i (map (λ x. x.text) l.fields) l.numbers.entries
