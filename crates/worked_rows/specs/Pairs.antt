-- The generated program: each of n pairs hands an unread future to one collector.
use Rattle.std.specs.Prelude.{◌≡◌, ℕ, true, false, List, [], ◌∷◌, length, map, codes}
use Rattle.std.specs.List.{flat_map}
use Rattle.asp_model.specs.Names.{Name, main_name, same_name}
use Rattle.asp_model.specs.Term.{Tree}
use Rattle.asp_model.specs.Outcome.{ActivityReportShape, OutcomeShape, outcome_of}
use Rattle.asp_model.specs.Report.{verdict_line, output_line}
use Rattle.worked_rows.specs.Programs.{number, variable, field, method, object, get, put, call, active, active_by, serve, let_in, steps, if_else, add, subtract, multiply, equal, print}
use Rattle.asp_model.specs.Replay.{plain_run}

-- active([sum = 0; run(s) = s.many(n); serve(total), many(s, k) = if (k == 0) { 0 } else
-- { serve(add); s.many(k - 1) }, add(s, v) = s.sum := s.sum + v; 0, total(s) = s.sum], run)
abbrev pub collector : ℕ → Tree
collector n = active_by (object (field "sum" (number 0) ∷ [])
    (method "run" "s" [] (steps (call (variable "s") "many" (number n ∷ []) ∷ serve ("total" ∷ []) ∷ []))
    ∷ method "many" "s" ("k" ∷ []) (if_else (equal (variable "k") (number 0))
    (number 0)
    (steps (serve ("add" ∷ []) ∷ call (variable "s") "many" (subtract (variable "k") (number 1) ∷ []) ∷ [])))
    ∷ method "add" "s" ("v" ∷ []) (steps (put (variable "s") "sum" (add (get (variable "s") "sum") (variable "v")) ∷ number 0 ∷ []))
    ∷ method "total" "s" [] (get (variable "s") "sum")
    ∷ [])) "run"

-- [; pairs(s, k) = if (k == 0) { 0 } else { let b = active([; twice(t, v) = v * 2]) in
-- let f = active([; go(t, v) = c.add(b.twice(v))]) in f.go(k); s.pairs(k - 1) }]
abbrev pub maker : Tree
maker = object []
    (method "pairs" "s" ("k" ∷ []) (if_else (equal (variable "k") (number 0))
    (number 0)
    (let_in "b" (active (object [] (method "twice" "t" ("v" ∷ []) (multiply (variable "v") (number 2)) ∷ [])))
    (let_in "f" (active (object []
    (method "go" "t" ("v" ∷ []) (call (variable "c") "add" (call (variable "b") "twice" (variable "v" ∷ []) ∷ [])) ∷ [])))
    (steps (call (variable "f") "go" (variable "k" ∷ []) ∷ call (variable "s") "pairs" (subtract (variable "k") (number 1) ∷ []) ∷ [])))))
    ∷ [])

-- let c = the collector in let m = the maker in m.pairs(n); print(c.total())
abbrev pub pairs : ℕ → Tree
pairs n = let_in "c" (collector n)
    (let_in "m" maker
    (steps (call (variable "m") "pairs" (number n ∷ []) ∷ print (call (variable "c") "total" []) ∷ [])))

-- the verdict, how many activities, how many requests, and main's lines
abbrev pub Summary : Type 0
Summary = List ℕ × ℕ × ℕ × List (List ℕ)

abbrev pub lines_of : Name → ActivityReportShape → List (List ℕ)
lines_of n a = elim (same_name n a.name) [ true ↦ map output_line a.lines | false ↦ [] ]

abbrev pub summary_of : OutcomeShape → Summary
summary_of o = (
  verdict_line o.verdict,
  length o.activities,
  length (flat_map (λ a. a.senders) o.activities),
  flat_map (lines_of main_name) o.activities,
)

-- the summary of the plain run of three pairs
abbrev pub ThreePairsReport : Type 0
ThreePairsReport = summary_of (outcome_of (plain_run 300 (pairs 3))) ≡ (codes "verdict end", 8, 10, codes "> 12" ∷ [])
