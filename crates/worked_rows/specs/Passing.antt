-- Arguments and futures that pass from one activity to another.
use Rattle.std.specs.Prelude.{◌≡◌, List, [], ◌∷◌, map}
use Rattle.asp_model.specs.Names.{main_name}
use Rattle.asp_model.specs.Term.{Tree}
use Rattle.asp_model.specs.Configuration.{requests_of, From}
use Rattle.worked_rows.specs.Programs.{number, variable, field, method, object, get, put, call, active, let_in, steps, add, multiply, print}
use Rattle.worked_rows.specs.Reports.{Entry, created, replayed, Reports}
use Rattle.worked_rows.specs.Copies.{shared_parcel}

-- let q = active([; slow(s, v) = v * 10]) in let z = active([; take(s, v) = print(v + 1)]) in
-- let y = active([; pass(s, v) = z.take(v)]) in let x = active([; hand(s, v) = y.pass(v)]) in
-- x.hand(q.slow(4))
abbrev pub handing : Tree
handing = let_in "q" (active (object [] (method "slow" "s" ("v" ∷ []) (multiply (variable "v") (number 10)) ∷ [])))
    (let_in "z" (active (object [] (method "take" "s" ("v" ∷ []) (print (add (variable "v") (number 1))) ∷ [])))
    (let_in "y" (active (object [] (method "pass" "s" ("v" ∷ []) (call (variable "z") "take" (variable "v" ∷ [])) ∷ [])))
    (let_in "x" (active (object [] (method "hand" "s" ("v" ∷ []) (call (variable "y") "pass" (variable "v" ∷ [])) ∷ [])))
    (call (variable "x") "hand" (call (variable "q") "slow" (number 4 ∷ []) ∷ [])))))

abbrev pub handing_entries : List Entry
handing_entries = (main_name, 15, [])
    ∷ (created 1, 9, From main_name ∷ [])
    ∷ (created 2, 10, From (created 3) ∷ [])
    ∷ (created 3, 8, From (created 4) ∷ [])
    ∷ (created 4, 8, From main_name ∷ [])
    ∷ []

-- a future passes three activities unread
abbrev pub HandingReports : Type 0
HandingReports = Reports handing 100 handing_entries 0 (
    "asp report 2"
    ∷ "verdict end"
    ∷ "activity 0 15 done"
    ∷ "senders"
    ∷ "activity 0.1 9 serving"
    ∷ "senders 0"
    ∷ "activity 0.2 10 serving"
    ∷ "senders 0.3"
    ∷ "> 41"
    ∷ "activity 0.3 8 serving"
    ∷ "senders 0.4"
    ∷ "activity 0.4 8 serving"
    ∷ "senders 0"
    ∷ []
    )

-- let a = active([; make(s) = [v = 1]]) in
-- let k = active([got = 0; keep(s, o) = s.got := o; 0, set(s, o) = o.v := 2; print(s.got.v); print(o.v)]) in
-- let f = a.make() in k.keep(f); k.set(f)
abbrev pub keeping : Tree
keeping = let_in "a" (active (object [] (method "make" "s" [] (object (field "v" (number 1) ∷ []) []) ∷ [])))
    (let_in "k"
    (active (object (field "got" (number 0) ∷ [])
    (method "keep" "s" ("o" ∷ []) (steps (put (variable "s") "got" (variable "o") ∷ number 0 ∷ []))
    ∷ method "set" "s" ("o" ∷ []) (steps (
    put (variable "o") "v" (number 2)
    ∷ print (get (get (variable "s") "got") "v")
    ∷ print (get (variable "o") "v")
    ∷ []))
    ∷ [])))
    (let_in "f" (call (variable "a") "make" [])
    (steps (call (variable "k") "keep" (variable "f" ∷ []) ∷ call (variable "k") "set" (variable "f" ∷ []) ∷ []))))

abbrev pub keeping_entries : List Entry
keeping_entries = (main_name, 12, []) ∷ (created 1, 9, From main_name ∷ [])
    ∷ (created 2, 25, From main_name ∷ From main_name ∷ []) ∷ []

-- one value is received by two messages, and one copy of it changes
abbrev pub KeepingReports : Type 0
KeepingReports = Reports keeping 100 keeping_entries 0 (
    "asp report 2"
    ∷ "verdict end"
    ∷ "activity 0 12 done"
    ∷ "senders"
    ∷ "activity 0.1 9 serving"
    ∷ "senders 0"
    ∷ "activity 0.2 25 serving"
    ∷ "senders 0 0"
    ∷ "> 1"
    ∷ "> 2"
    ∷ []
    )

-- let t = active([; both(s, p) = p.a.v := 7; print(p.b.v)]) in let o = [v = 1] in t.both([a = o, b = o])
abbrev pub sending_both : Tree
sending_both = let_in "t"
    (active (object []
    (method "both" "s" ("p" ∷ []) (steps (
    put (get (variable "p") "a") "v" (number 7)
    ∷ print (get (get (variable "p") "b") "v")
    ∷ []))
    ∷ [])))
    (let_in "o" (object (field "v" (number 1) ∷ []) [])
    (call (variable "t") "both" (object (field "a" (variable "o") ∷ field "b" (variable "o") ∷ []) [] ∷ [])))

abbrev pub sending_entries : List Entry
sending_entries = (main_name, 8, []) ∷ (created 1, 14, From main_name ∷ []) ∷ []

-- two fields of an argument share one object
abbrev pub SendingReports : Type 0
SendingReports = Reports sending_both 100 sending_entries 0 (
    "asp report 2"
    ∷ "verdict end"
    ∷ "activity 0 8 done"
    ∷ "senders"
    ∷ "activity 0.1 14 serving"
    ∷ "senders 0"
    ∷ "> 7"
    ∷ []
    )

-- what the request holds
abbrev pub SharesArgument : Type 0
SharesArgument = map (λ r. r.arguments) (requests_of (replayed sending_both sending_entries) (created 1)) ≡ shared_parcel ∷ []
