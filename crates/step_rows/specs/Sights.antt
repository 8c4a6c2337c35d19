-- What strict operands are seen as.
use Rattle.std.specs.Prelude.{◌≡◌, ℕ}
use Rattle.asp_model.specs.Names.{FutureShape}
use Rattle.asp_model.specs.Term.{SignShape, Tree}
use Rattle.asp_model.specs.Store.{CellShape, Store, Number, Future}
use Rattle.asp_model.specs.Contraction.{Contraction, Needs, Faults, NotNumber, operate_row, print_row, if_row}
use Rattle.step_rows.specs.declared.seen.Seen.{Seen}
use Rattle.step_rows.specs.declared.seen.Seen.TheVariants as seen

-- neither a number nor a future
abbrev pub IsOther : CellShape → Type 0
IsOther (Number n) = ⊥
IsOther (Future f) = ⊥
IsOther c = Unit {0}

abbrev pub IsSeen : CellShape → Seen → Type 0
IsSeen c (seen.Number n) = c ≡ Number n
IsSeen c seen.Future = (f : FutureShape) × (c ≡ Future f)
IsSeen c seen.Other = IsOther c

-- the contraction of a sign by what its operands are seen as
abbrev pub operated : Store → SignShape → (i j : ℕ) → Seen → Seen → Contraction
operated S sign i j seen.Future y = Needs i
operated S sign i j x seen.Future = Needs j
operated S sign i j (seen.Number n) (seen.Number m) = operate_row S sign (Number n) (Number m)
operated S sign i j x y = Faults NotNumber

-- of a `print`
abbrev pub printed : Store → ℕ → Seen → Contraction
printed S i (seen.Number n) = print_row S i (Number n)
printed S i seen.Future = Needs i
printed S i seen.Other = Faults NotNumber

-- of a choice between two terms
abbrev pub tested : Store → ℕ → Tree → Tree → Seen → Contraction
tested S i a b (seen.Number n) = if_row S a b (Number n)
tested S i a b seen.Future = Needs i
tested S i a b seen.Other = Faults NotNumber

-- of a row that wants any value
abbrev pub seen_or : ℕ → Contraction → Seen → Contraction
seen_or i c seen.Future = Needs i
seen_or i c x = c
