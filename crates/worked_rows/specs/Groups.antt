-- Groups, of activities and of passive objects.
use Rattle.std.specs.Prelude.{List, [], ◌∷◌}
use Rattle.asp_model.specs.Names.{main_name}
use Rattle.asp_model.specs.Configuration.{From}
use Rattle.asp_model.specs.Term.{Tree}
use Rattle.worked_rows.specs.Programs.{number, variable, method, object, call, active, let_in, steps, add, multiply, print, group, scatter, size, member, waitall}
use Rattle.worked_rows.specs.Reports.{Entry, created, Reports, ReportsAlone}

-- print(size(group()))
abbrev pub EmptyGroupReports : Type 0
EmptyGroupReports = ReportsAlone (print (size (group []))) 100 3 0 (
    "asp report 2"
    ∷ "verdict end"
    ∷ "activity 0 3 done"
    ∷ "senders"
    ∷ "> 0"
    ∷ []
    )

-- member(group(1), 1)
abbrev pub NoMemberReports : Type 0
NoMemberReports = ReportsAlone (member (group (number 1 ∷ [])) (number 1)) 100 3 1 (
    "asp report 2"
    ∷ "verdict end"
    ∷ "activity 0 3 fault BadMember"
    ∷ "senders"
    ∷ []
    )

-- let o = [; f(s, v) = v + 1] in let r = group(o, o).f(1) in print(member(r, 0) + member(r, 1))
abbrev pub passive : Tree
passive = let_in "o" (object [] (method "f" "s" ("v" ∷ []) (add (variable "v") (number 1)) ∷ []))
    (let_in "r" (call (group (variable "o" ∷ variable "o" ∷ [])) "f" (number 1 ∷ []))
    (print (add (member (variable "r") (number 0)) (member (variable "r") (number 1)))))

abbrev pub PassiveGroupReports : Type 0
PassiveGroupReports = ReportsAlone passive 100 19 0 (
    "asp report 2"
    ∷ "verdict end"
    ∷ "activity 0 19 done"
    ∷ "senders"
    ∷ "> 4"
    ∷ []
    )

-- let w = [; sq(s, v) = v * v] in let g = group(active(w), active(w), active(w)) in
-- let r = waitall(g.sq(5)) in print(member(r, 0) + member(r, 1) + member(r, 2));
-- print(size(scatter(g, sq, group(1, 2, 3)))); scatter(g, sq, group(1, 2))
abbrev pub workers : Tree
workers = let_in "w" (object [] (method "sq" "s" ("v" ∷ []) (multiply (variable "v") (variable "v")) ∷ []))
    (let_in "g" (group (active (variable "w") ∷ active (variable "w") ∷ active (variable "w") ∷ []))
    (let_in "r" (waitall (call (variable "g") "sq" (number 5 ∷ [])))
    (steps (
    print (add (add (member (variable "r") (number 0)) (member (variable "r") (number 1))) (member (variable "r") (number 2)))
    ∷ print (size (scatter (variable "g") "sq" (group (number 1 ∷ number 2 ∷ number 3 ∷ []))))
    ∷ scatter (variable "g") "sq" (group (number 1 ∷ number 2 ∷ []))
    ∷ []))))

abbrev pub workers_entries : List Entry
workers_entries = (main_name, 40, [])
    ∷ (created 1, 15, From main_name ∷ From main_name ∷ [])
    ∷ (created 2, 15, From main_name ∷ From main_name ∷ [])
    ∷ (created 3, 15, From main_name ∷ From main_name ∷ [])
    ∷ []

-- the last two groups differ in size
abbrev pub WorkersReport : Type 0
WorkersReport = Reports workers 100 workers_entries 1 (
    "asp report 2"
    ∷ "verdict end"
    ∷ "activity 0 40 fault BadMember"
    ∷ "senders"
    ∷ "> 75"
    ∷ "> 3"
    ∷ "activity 0.1 15 serving"
    ∷ "senders 0 0"
    ∷ "activity 0.2 15 serving"
    ∷ "senders 0 0"
    ∷ "activity 0.3 15 serving"
    ∷ "senders 0 0"
    ∷ []
    )
