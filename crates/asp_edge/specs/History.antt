-- What a read and a write add to a history.
use Rattle.std.specs.Prelude.{ℕ, List, Result}
use Rattle.asp_edge.specs.Causes.{answered}
use Rattle.asp_edge.specs.declared.edge.ReadError.{ReadError}
use Rattle.asp_edge.specs.declared.history.Ask.{Ask}

-- the name of a read, and its answer
abbrev pub ask_of : Ask → List ℕ × Result (List ℕ) ReadError
ask_of a = (a.name.now, answered a.answer.now)
