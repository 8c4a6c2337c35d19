-- How many parentheses stand round what was read.
use Rattle.std.specs.Prelude.{ℕ}
use Rattle.asp_model.specs.Marked.{Marked, marked}
use Rattle.syntax_grammar.specs.States.{Have, StateShape, At, operand_part}

-- the parentheses round a term
abbrev pub parentheses_of : Marked → ℕ
parentheses_of (marked h m ts) = m.parentheses

-- those round the operand that was read last, if nothing stands behind it
abbrev pub parentheses_in : StateShape → ℕ
parentheses_in (At (Have x) s outer) = parentheses_of (operand_part x).term
parentheses_in x = 0
