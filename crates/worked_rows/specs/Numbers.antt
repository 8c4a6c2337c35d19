-- Programs of main alone: numbers, texts, branches and budgets.
use Rattle.std.specs.Prelude.{ℕ, [], ◌∷◌}
use Rattle.asp_model.specs.Term.{Tree}
use Rattle.worked_rows.specs.Programs.{number, steps, if_else, repeat, add, subtract, divide, remainder, less, equal, print, echo}
use Rattle.worked_rows.specs.Reports.{ReportsAlone}

-- print(1 + 2)
abbrev pub sum : Tree
sum = print (add (number 1) (number 2))

-- two literals, the sum and the print
abbrev pub SumReports : Type 0
SumReports = ReportsAlone sum 100 4 0 (
    "asp report 2"
    ∷ "verdict end"
    ∷ "activity 0 4 done"
    ∷ "senders"
    ∷ "> 3"
    ∷ []
    )

-- one reduction is left to do where the budget ends
abbrev pub CutSumReports : Type 0
CutSumReports = ReportsAlone sum 3 3 5 (
    "asp report 2"
    ∷ "verdict budget"
    ∷ "activity 0 3 running"
    ∷ "senders"
    ∷ []
    )

-- print(9223372036854775807 + 1)
abbrev pub OverflowReports : Type 0
OverflowReports = ReportsAlone (print (add (number 9223372036854775807) (number 1))) 100 2 1 (
    "asp report 2"
    ∷ "verdict end"
    ∷ "activity 0 2 fault Overflow"
    ∷ "senders"
    ∷ []
    )

-- print(7 / 0)
abbrev pub ZeroDivisorReports : Type 0
ZeroDivisorReports = ReportsAlone (print (divide (number 7) (number 0))) 100 2 1 (
    "asp report 2"
    ∷ "verdict end"
    ∷ "activity 0 2 fault ZeroDivisor"
    ∷ "senders"
    ∷ []
    )

-- 0 - n
abbrev pub negative : ℕ → Tree
negative n = subtract (number 0) (number n)

-- print((0 - 7) / 2); print((0 - 7) % 2); print(7 / (0 - 2)); print(7 % (0 - 2)); print(3 < 3); print(3 == 3)
abbrev pub signs : Tree
signs = steps (
    print (divide (negative 7) (number 2))
    ∷ print (remainder (negative 7) (number 2))
    ∷ print (divide (number 7) (negative 2))
    ∷ print (remainder (number 7) (negative 2))
    ∷ print (less (number 3) (number 3))
    ∷ print (equal (number 3) (number 3))
    ∷ []
    )

-- four times three literals, two signs and a print, twice two literals, a sign and a print, and five sequences
abbrev pub SignsReport : Type 0
SignsReport = ReportsAlone signs 100 37 0 (
    "asp report 2"
    ∷ "verdict end"
    ∷ "activity 0 37 done"
    ∷ "senders"
    ∷ "> -3"
    ∷ "> -1"
    ∷ "> -3"
    ∷ "> 1"
    ∷ "> 0"
    ∷ "> 1"
    ∷ []
    )

-- 0 - 9223372036854775807 - 1
abbrev pub least : Tree
least = subtract (negative 9223372036854775807) (number 1)

-- eight reductions, and then the fault
abbrev pub OverflowsBehindEight : Tree → Type 0
OverflowsBehindEight program = ReportsAlone program 100 8 1 (
    "asp report 2"
    ∷ "verdict end"
    ∷ "activity 0 8 fault Overflow"
    ∷ "senders"
    ∷ []
    )

-- (0 - 9223372036854775807 - 1) / (0 - 1)
abbrev pub LeastQuotientReports : Type 0
LeastQuotientReports = OverflowsBehindEight (divide least (negative 1))

-- (0 - 9223372036854775807 - 1) % (0 - 1)
abbrev pub LeastRemainderReports : Type 0
LeastRemainderReports = OverflowsBehindEight (remainder least (negative 1))

-- repeat(0)
abbrev pub EndlessReports : Type 0
EndlessReports = ReportsAlone (repeat (number 0)) 100 100 5 (
    "asp report 2"
    ∷ "verdict budget"
    ∷ "activity 0 100 running"
    ∷ "senders"
    ∷ []
    )

-- 1
abbrev pub LiteralReports : Type 0
LiteralReports = ReportsAlone (number 1) 1 1 0 (
    "asp report 2"
    ∷ "verdict end"
    ∷ "activity 0 1 done"
    ∷ "senders"
    ∷ []
    )

-- echo("ready"); if (2 < 3) { print(7 % 4) } else { 0 }
abbrev pub choosing : Tree
choosing = steps (echo "ready" ∷ if_else (less (number 2) (number 3)) (print (remainder (number 7) (number 4))) (number 0) ∷ [])

-- echo, sequence, two literals, comparison, `if`, two literals, remainder and print
abbrev pub ChoosingReports : Type 0
ChoosingReports = ReportsAlone choosing 100 10 0 (
    "asp report 2"
    ∷ "verdict end"
    ∷ "activity 0 10 done"
    ∷ "senders"
    ∷ "| ready"
    ∷ "> 3"
    ∷ []
    )
