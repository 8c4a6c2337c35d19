-- Activities that ask each other and serve.
use Rattle.std.specs.Prelude.{[], ◌∷◌}
use Rattle.asp_model.specs.Names.{main_name}
use Rattle.asp_model.specs.Configuration.{From}
use Rattle.asp_model.specs.Term.{Tree}
use Rattle.worked_rows.specs.Programs.{number, variable, method, object, get, call, active, serve, let_in, steps, add, divide, print}
use Rattle.worked_rows.specs.Reports.{created, Reports}

-- let a = active([; inc(s, x) = x + 1]) in print(a.inc(41))
abbrev pub asking : Tree
asking = let_in "a"
    (active (object [] (method "inc" "s" ("x" ∷ []) (add (variable "x") (number 1)) ∷ [])))
    (print (call (variable "a") "inc" (number 41 ∷ [])))

-- of 0.1: `repeat`, the service, invocation, literal, sum, the service's end, the new `[]`, the sequence, `repeat`
abbrev pub AskingReports : Type 0
AskingReports = Reports asking 100 ((main_name, 6, []) ∷ (created 1, 9, From main_name ∷ []) ∷ []) 0 (
    "asp report 2"
    ∷ "verdict end"
    ∷ "activity 0 6 done"
    ∷ "senders"
    ∷ "> 42"
    ∷ "activity 0.1 9 serving"
    ∷ "senders 0"
    ∷ []
    )

-- let a = active([; inc(s, x) = x + 1]) in let f = a.inc(41) in 0; 0; print(f)
abbrev pub asking_early : Tree
asking_early = let_in "a"
    (active (object [] (method "inc" "s" ("x" ∷ []) (add (variable "x") (number 1)) ∷ [])))
    (let_in "f" (call (variable "a") "inc" (number 41 ∷ []))
    (steps (number 0 ∷ number 0 ∷ print (variable "f") ∷ [])))

abbrev pub AskingEarlyReports : Type 0
AskingEarlyReports = Reports asking_early 100 ((main_name, 11, []) ∷ (created 1, 9, From main_name ∷ []) ∷ []) 0 (
    "asp report 2"
    ∷ "verdict end"
    ∷ "activity 0 11 done"
    ∷ "senders"
    ∷ "> 42"
    ∷ "activity 0.1 9 serving"
    ∷ "senders 0"
    ∷ []
    )

-- let a = active([; num(s) = s.x]) in let b = active([; div(s, v) = 7 / v]) in a.num(); b.div(0); a.y
abbrev pub faulting : Tree
faulting = let_in "a" (active (object [] (method "num" "s" [] (get (variable "s") "x") ∷ [])))
    (let_in "b" (active (object [] (method "div" "s" ("v" ∷ []) (divide (number 7) (variable "v")) ∷ [])))
    (steps (call (variable "a") "num" [] ∷ call (variable "b") "div" (number 0 ∷ []) ∷ get (variable "a") "y" ∷ [])))

abbrev pub FaultingReports : Type 0
FaultingReports = Reports faulting 100
    ((main_name, 11, []) ∷ (created 1, 3, From main_name ∷ []) ∷ (created 2, 4, From main_name ∷ []) ∷ []) 1 (
    "asp report 2"
    ∷ "verdict end"
    ∷ "activity 0 11 fault ActiveField"
    ∷ "senders"
    ∷ "activity 0.1 3 fault NoField"
    ∷ "senders 0"
    ∷ "activity 0.2 4 fault ZeroDivisor"
    ∷ "senders 0"
    ∷ []
    )

-- serve()
abbrev pub ServingReports : Type 0
ServingReports = Reports (serve []) 100 ((main_name, 0, []) ∷ []) 0 (
    "asp report 2"
    ∷ "verdict end"
    ∷ "activity 0 0 serving"
    ∷ "senders"
    ∷ []
    )
