-- Activities that wait for good: for their own answer, or for a future in a cycle.
use Rattle.std.specs.Prelude.{◌≡◌, List, [], ◌∷◌, Some}
use Rattle.std.specs.FinMap.{find}
use Rattle.asp_model.specs.Names.{FutureShape, main_name, future_cmp}
use Rattle.asp_model.specs.Configuration.{From}
use Rattle.asp_model.specs.Term.{Tree}
use Rattle.asp_model.specs.Store.{Future}
use Rattle.asp_model.specs.Chase.{Values, Cycle, chase}
use Rattle.worked_rows.specs.Programs.{number, variable, field, method, object, get, put, call, active, serve, let_in, steps, print}
use Rattle.worked_rows.specs.Reports.{Entry, created, replayed, Reports}

-- [x = 0; m(s) = serve(n); s.x, n(s, v) = s.x := v]
abbrev pub keeper : Tree
keeper = object (field "x" (number 0) ∷ [])
    (method "m" "s" [] (steps (serve ("n" ∷ []) ∷ get (variable "s") "x" ∷ []))
    ∷ method "n" "s" ("v" ∷ []) (put (variable "s") "x" (variable "v"))
    ∷ [])

-- let b = active([x = 0; m(s) = serve(n); s.x, n(s, v) = s.x := v]) in let f = b.m() in b.n(f); print(f)
abbrev pub circling : Tree
circling = let_in "b" (active keeper)
    (let_in "f" (call (variable "b") "m" [])
    (steps (call (variable "b") "n" (variable "f" ∷ []) ∷ print (variable "f") ∷ [])))

abbrev pub circling_entries : List Entry
circling_entries = (main_name, 8, []) ∷ (created 1, 14, From main_name ∷ From main_name ∷ []) ∷ []

abbrev pub CirclingReports : Type 0
CirclingReports = Reports circling 100 circling_entries 4 (
    "asp report 2"
    ∷ "verdict blocked"
    ∷ "activity 0 8 awaits 0#1"
    ∷ "senders"
    ∷ "activity 0.1 14 serving"
    ∷ "senders 0 0"
    ∷ []
    )

-- 0#1
abbrev pub first_future : FutureShape
first_future = record { by = main_name; index = 1 }

abbrev pub circling_values : Values
circling_values = (replayed circling circling_entries).futures

-- the future's value is the future itself
abbrev pub HasItselfAsValue : Type 0
HasItselfAsValue = find future_cmp first_future circling_values ≡ Some (record { cells = Future first_future ∷ []; roots = 0 ∷ [] })

abbrev pub ChasesItself : Type 0
ChasesItself = chase circling_values first_future ≡ Cycle first_future

-- let w = [x = 0; m(s) = serve(n); s.x, n(s, v) = s.x := v] in let b = active(w) in let c = active(w) in
-- let f = b.m() in let g = c.m() in b.n(g); c.n(f); print(g)
abbrev pub circling_twice : Tree
circling_twice = let_in "w" keeper
    (let_in "b" (active (variable "w"))
    (let_in "c" (active (variable "w"))
    (let_in "f" (call (variable "b") "m" [])
    (let_in "g" (call (variable "c") "m" [])
    (steps (
    call (variable "b") "n" (variable "g" ∷ [])
    ∷ call (variable "c") "n" (variable "f" ∷ [])
    ∷ print (variable "g")
    ∷ []))))))

abbrev pub circling_twice_entries : List Entry
circling_twice_entries = (main_name, 15, [])
    ∷ (created 1, 14, From main_name ∷ From main_name ∷ [])
    ∷ (created 2, 14, From main_name ∷ From main_name ∷ [])
    ∷ []

-- each of two futures has the other as its value
abbrev pub CirclingTwiceReports : Type 0
CirclingTwiceReports = Reports circling_twice 100 circling_twice_entries 4 (
    "asp report 2"
    ∷ "verdict blocked"
    ∷ "activity 0 15 awaits 0#1"
    ∷ "senders"
    ∷ "activity 0.1 14 serving"
    ∷ "senders 0 0"
    ∷ "activity 0.2 14 serving"
    ∷ "senders 0 0"
    ∷ []
    )

-- let a = active([; me(s, r) = print(r.two()), two(s) = 2]) in a.me(a)
abbrev pub self_asking : Tree
self_asking = let_in "a"
    (active (object []
    (method "me" "s" ("r" ∷ []) (print (call (variable "r") "two" []))
    ∷ method "two" "s" [] (number 2)
    ∷ [])))
    (call (variable "a") "me" (variable "a" ∷ []))

abbrev pub SelfAskingReports : Type 0
SelfAskingReports = Reports self_asking 100
    ((main_name, 4, []) ∷ (created 1, 4, From main_name ∷ From (created 1) ∷ []) ∷ []) 4 (
    "asp report 2"
    ∷ "verdict blocked"
    ∷ "activity 0 4 done"
    ∷ "senders"
    ∷ "activity 0.1 4 awaits 0.1#1"
    ∷ "senders 0 0.1"
    ∷ []
    )
