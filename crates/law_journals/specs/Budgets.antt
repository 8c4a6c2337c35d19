-- What becomes of a budget: it is counted, left, or granted to those who are out.
use Rattle.std.specs.Prelude.{◌≡◌, ℕ, ◌+◌, List, [], ◌∷◌, Some}
use Rattle.asp_model.specs.Configuration.{Configuration}
use Rattle.asp_model.specs.Replay.{counts_of, total}
use Rattle.asp_model.specs.History.{HistoryShape}
use Rattle.def_journals.specs.Journals.{RunShape, first_in, run_of}
use Rattle.law_steps.specs.Sound.{IsSound}

-- the sum of these grants
abbrev pub granted_in : List (ℕ × ℕ) → ℕ
granted_in [] = 0
granted_in (x ∷ xs) = x.1 + granted_in xs

-- all reductions of a configuration, summed over its activities
abbrev pub spent_in : Configuration → ℕ
spent_in c = total (counts_of c)

-- what was counted where a history begins, and its budget
abbrev pub most_in : HistoryShape → ℕ
most_in h = spent_in (first_in h).configuration + h.budget

-- counts, what is left and what is granted sum to that
abbrev pub BudgetsAreKept : Type 0
BudgetsAreKept = (h : HistoryShape) (s : RunShape) → IsSound (first_in h).configuration → run_of h ≡ Some s
    → spent_in s.configuration + (s.left + granted_in s.out) ≡ most_in h
