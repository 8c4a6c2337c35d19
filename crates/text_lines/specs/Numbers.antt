-- Numbers with a bound.
use Rattle.std.specs.Prelude.{ℕ, nat_lt, true, false, Option, Some, None}
use Rattle.asp_model.specs.Names.{Text}
use Rattle.asp_model.specs.ReportLines.{number_of}

-- a number, where it is below the bound
abbrev pub only_below : ℕ → Option ℕ → Option ℕ
only_below bound None = None
only_below bound (Some n) = elim (nat_lt n bound) [ true ↦ Some n | false ↦ None ]

-- the number that a text writes without needless zeros, where it is below the bound
abbrev pub number_below : ℕ → Text → Option ℕ
number_below bound t = only_below bound (number_of t)
