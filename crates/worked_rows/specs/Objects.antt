-- Programs of main alone: objects.
use Rattle.std.specs.Prelude.{[], ◌∷◌}
use Rattle.asp_model.specs.Term.{Tree}
use Rattle.worked_rows.specs.Programs.{number, variable, field, method, object, get, put, call, clone, let_in, steps, multiply, print}
use Rattle.worked_rows.specs.Reports.{ReportsAlone}

-- let o = [v = 3; dbl(s, k) = s.v := s.v * k; s.v] in print(o.dbl(2)); o.x
abbrev pub doubling : Tree
doubling = let_in "o"
    (object (field "v" (number 3) ∷ [])
    (method "dbl" "s" ("k" ∷ [])
    (steps (put (variable "s") "v" (multiply (get (variable "s") "v") (variable "k")) ∷ get (variable "s") "v" ∷ [])) ∷ []))
    (steps (print (call (variable "o") "dbl" (number 2 ∷ [])) ∷ get (variable "o") "x" ∷ []))

abbrev pub DoublingReports : Type 0
DoublingReports = ReportsAlone doubling 100 12 1 (
    "asp report 2"
    ∷ "verdict end"
    ∷ "activity 0 12 fault NoField"
    ∷ "senders"
    ∷ "> 6"
    ∷ []
    )

-- let o = [v = 1] in let p = clone(o) in p.v := 2; print(o.v); print(p.v)
abbrev pub cloning : Tree
cloning = let_in "o" (object (field "v" (number 1) ∷ []) [])
    (let_in "p" (clone (variable "o"))
    (steps (put (variable "p") "v" (number 2) ∷ print (get (variable "o") "v") ∷ print (get (variable "p") "v") ∷ [])))

abbrev pub CloningReports : Type 0
CloningReports = ReportsAlone cloning 100 13 0 (
    "asp report 2"
    ∷ "verdict end"
    ∷ "activity 0 13 done"
    ∷ "senders"
    ∷ "> 1"
    ∷ "> 2"
    ∷ []
    )

-- let o = [v = 1] in [a = o, b = o]
abbrev pub sharing : Tree
sharing = let_in "o" (object (field "v" (number 1) ∷ []) []) (object (field "a" (variable "o") ∷ field "b" (variable "o") ∷ []) [])

abbrev pub SharingReports : Type 0
SharingReports = ReportsAlone sharing 100 4 0 (
    "asp report 2"
    ∷ "verdict end"
    ∷ "activity 0 4 done"
    ∷ "senders"
    ∷ []
    )
