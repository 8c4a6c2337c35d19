-- Two senders to one receiver: the runs under both lists, and lists and counts that do not fit.
use Prim.Native.String.{String}
use Rattle.std.specs.Prelude.{ℕ, List, [], ◌∷◌}
use Rattle.asp_model.specs.Names.{main_name}
use Rattle.asp_model.specs.Configuration.{ReceptionShape, From}
use Rattle.asp_model.specs.Term.{Tree}
use Rattle.worked_rows.specs.Programs.{number, variable, field, method, object, get, put, call, active, active_by, serve, let_in, steps, add, multiply, print}
use Rattle.worked_rows.specs.Reports.{Entry, created, Reports, Replays, Diverges}

-- let c = active([n = 1; put(s, v) = s.n := s.n * 2 + v; print(s.n)]) in
-- let a = active([; go(s) = c.put(0)]) in let b = active([; go(s) = c.put(1)]) in a.go(); b.go()
abbrev pub racing : Tree
racing = let_in "c"
    (active (object (field "n" (number 1) ∷ [])
    (method "put" "s" ("v" ∷ []) (steps (
    put (variable "s") "n" (add (multiply (get (variable "s") "n") (number 2)) (variable "v"))
    ∷ print (get (variable "s") "n")
    ∷ []))
    ∷ [])))
    (let_in "a" (active (object [] (method "go" "s" [] (call (variable "c") "put" (number 0 ∷ [])) ∷ [])))
    (let_in "b" (active (object [] (method "go" "s" [] (call (variable "c") "put" (number 1 ∷ [])) ∷ [])))
    (steps (call (variable "a") "go" [] ∷ call (variable "b") "go" [] ∷ []))))

-- the run's entries, with these of the counter
abbrev pub racing_entries : ℕ → List ReceptionShape → List Entry
racing_entries count senders = (main_name, 13, [])
    ∷ (created 1, count, senders)
    ∷ (created 2, 9, From main_name ∷ [])
    ∷ (created 3, 9, From main_name ∷ [])
    ∷ []

abbrev pub RacingReports : Type 0
RacingReports = Reports racing 100 (racing_entries 29 (From (created 2) ∷ From (created 3) ∷ [])) 0 (
    "asp report 2"
    ∷ "verdict end"
    ∷ "activity 0 13 done"
    ∷ "senders"
    ∷ "activity 0.1 29 serving"
    ∷ "senders 0.2 0.3"
    ∷ "> 2"
    ∷ "> 5"
    ∷ "activity 0.2 9 serving"
    ∷ "senders 0"
    ∷ "activity 0.3 9 serving"
    ∷ "senders 0"
    ∷ []
    )

-- the list of the counter turned round
abbrev pub TurnedReports : Type 0
TurnedReports = Replays racing (racing_entries 29 (From (created 3) ∷ From (created 2) ∷ [])) 0 (
    "asp report 2"
    ∷ "verdict end"
    ∷ "activity 0 13 done"
    ∷ "senders"
    ∷ "activity 0.1 29 serving"
    ∷ "senders 0.3 0.2"
    ∷ "> 3"
    ∷ "> 6"
    ∷ "activity 0.2 9 serving"
    ∷ "senders 0"
    ∷ "activity 0.3 9 serving"
    ∷ "senders 0"
    ∷ []
    )

-- the counter cannot take a 30th reduction
abbrev pub CountDiverges : Type 0
CountDiverges = Diverges racing (racing_entries 30 (From (created 2) ∷ From (created 3) ∷ []))
    (racing_entries 29 (From (created 2) ∷ From (created 3) ∷ []))

-- 0.2 sends once, and 0.3 stands before its request for good
abbrev pub ListDiverges : Type 0
ListDiverges = Diverges racing (racing_entries 29 (From (created 2) ∷ From (created 2) ∷ [])) (
    (main_name, 13, [])
    ∷ (created 1, 15, From (created 2) ∷ [])
    ∷ (created 2, 9, From main_name ∷ [])
    ∷ (created 3, 4, From main_name ∷ [])
    ∷ []
    )

-- let c = active([; run(s) = serve(a); serve(b), a(s, v) = print(v), b(s, v) = print(v + 10)], run) in
-- let p = active([; go(s) = c.a(1)]) in let q = active([; go(s) = c.b(1)]) in p.go(); q.go()
abbrev pub ordering : Tree
ordering = let_in "c"
    (active_by (object []
    (method "run" "s" [] (steps (serve ("a" ∷ []) ∷ serve ("b" ∷ []) ∷ []))
    ∷ method "a" "s" ("v" ∷ []) (print (variable "v"))
    ∷ method "b" "s" ("v" ∷ []) (print (add (variable "v") (number 10)))
    ∷ [])) "run")
    (let_in "p" (active (object [] (method "go" "s" [] (call (variable "c") "a" (number 1 ∷ [])) ∷ [])))
    (let_in "q" (active (object [] (method "go" "s" [] (call (variable "c") "b" (number 1 ∷ [])) ∷ [])))
    (steps (call (variable "p") "go" [] ∷ call (variable "q") "go" [] ∷ []))))

abbrev pub ordering_entries : List ReceptionShape → List Entry
ordering_entries senders = (main_name, 12, [])
    ∷ (created 1, 14, senders)
    ∷ (created 2, 9, From main_name ∷ [])
    ∷ (created 3, 9, From main_name ∷ [])
    ∷ []

-- the report with this senders line of 0.1
abbrev pub ordering_lines : String → List String
ordering_lines senders = "asp report 2"
    ∷ "verdict end"
    ∷ "activity 0 12 done"
    ∷ "senders"
    ∷ "activity 0.1 14 done"
    ∷ senders
    ∷ "> 1"
    ∷ "> 11"
    ∷ "activity 0.2 9 serving"
    ∷ "senders 0"
    ∷ "activity 0.3 9 serving"
    ∷ "senders 0"
    ∷ []

-- services by label are in one order, whoever sends first
abbrev pub OrderingReports : Type 0
OrderingReports = Reports ordering 100 (ordering_entries (From (created 2) ∷ From (created 3) ∷ [])) 0
    (ordering_lines "senders 0.2 0.3")

abbrev pub OrderingTurnedReports : Type 0
OrderingTurnedReports = Replays ordering (ordering_entries (From (created 3) ∷ From (created 2) ∷ [])) 0
    (ordering_lines "senders 0.3 0.2")
