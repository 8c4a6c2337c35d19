-- Activities that ask what is pending.
use Prim.Native.String.{String}
use Rattle.std.specs.Prelude.{◌≡◌, true, false, List, [], ◌∷◌}
use Rattle.asp_model.specs.Names.{main_name}
use Rattle.asp_model.specs.Configuration.{ReceptionShape, From, Poll}
use Rattle.asp_model.specs.Term.{Tree}
use Rattle.asp_model.specs.ReadReport.{BadLine}
use Rattle.law_steps.specs.Joins.{is_narrow}
use Rattle.worked_rows.specs.Programs.{number, variable, method, object, call, active, serve, pending, let_in, steps, print}
use Rattle.worked_rows.specs.Reports.{Entry, created, Reports, Replays, Diverges, read_lines}

-- let a = active([; go(s) = print(pending(hi)); serve(hi), hi(s) = 1]) in a.go(); a.hi()
abbrev pub asked_once : Tree
asked_once = let_in "a"
    (active (object []
    (method "go" "s" [] (steps (print (pending ("hi" ∷ [])) ∷ serve ("hi" ∷ []) ∷ []))
    ∷ method "hi" "s" [] (number 1)
    ∷ [])))
    (steps (call (variable "a") "go" [] ∷ call (variable "a") "hi" [] ∷ []))

abbrev pub asked_entries : List ReceptionShape → List Entry
asked_entries log = (main_name, 6, []) ∷ (created 1, 15, log) ∷ []

-- what stands behind the first line, with this log and this output of 0.1
abbrev pub asked_lines_behind : String → String → List String
asked_lines_behind log output = "verdict end"
    ∷ "activity 0 6 done"
    ∷ "senders"
    ∷ "activity 0.1 15 serving"
    ∷ log
    ∷ output
    ∷ []

abbrev pub asked_lines : String → String → List String
asked_lines log output = "asp report 2" ∷ asked_lines_behind log output

-- the poll behind both requests
abbrev pub AskedLateReports : Type 0
AskedLateReports = Reports asked_once 100 (asked_entries (From main_name ∷ From main_name ∷ Poll ∷ [])) 0
    (asked_lines "senders 0 0 ?" "> 1")

-- the poll between them
abbrev pub AskedEarlyReports : Type 0
AskedEarlyReports = Replays asked_once (asked_entries (From main_name ∷ Poll ∷ From main_name ∷ [])) 0
    (asked_lines "senders 0 ? 0" "> 0")

-- before any request there is no poll, so main stands before its first request for good
abbrev pub AskedFirstDiverges : Type 0
AskedFirstDiverges = Diverges asked_once (asked_entries (Poll ∷ From main_name ∷ From main_name ∷ [])) (
    (main_name, 3, [])
    ∷ (created 1, 1, [])
    ∷ []
    )

-- a log of version 1 has no polls
abbrev pub AskedInVersion1 : Type 0
AskedInVersion1 = read_lines ("asp report 1" ∷ asked_lines_behind "senders 0 ? 0" "> 0") ≡ BadLine 6

-- the budget ends before the poll, and with it: it is logged when it is done
abbrev pub AskedNotYetReports : Type 0
AskedNotYetReports = Reports asked_once 9
    ((main_name, 6, []) ∷ (created 1, 3, From main_name ∷ From main_name ∷ []) ∷ []) 5 (
    "asp report 2"
    ∷ "verdict budget"
    ∷ "activity 0 6 done"
    ∷ "senders"
    ∷ "activity 0.1 3 running"
    ∷ "senders 0 0"
    ∷ []
    )

abbrev pub AskedAtLastReports : Type 0
AskedAtLastReports = Reports asked_once 10
    ((main_name, 6, []) ∷ (created 1, 4, From main_name ∷ From main_name ∷ Poll ∷ []) ∷ []) 5 (
    "asp report 2"
    ∷ "verdict budget"
    ∷ "activity 0 6 done"
    ∷ "senders"
    ∷ "activity 0.1 4 running"
    ∷ "senders 0 0 ?"
    ∷ []
    )

-- let a = active([; go(s) = print(pending()); serve(hi); print(pending(hi)), hi(s) = 1]) in a.go(); a.hi()
abbrev pub asked_twice : Tree
asked_twice = let_in "a"
    (active (object []
    (method "go" "s" [] (steps (print (pending []) ∷ serve ("hi" ∷ []) ∷ print (pending ("hi" ∷ [])) ∷ []))
    ∷ method "hi" "s" [] (number 1)
    ∷ [])))
    (steps (call (variable "a") "go" [] ∷ call (variable "a") "hi" [] ∷ []))

-- what was served is pending no longer
abbrev pub AskedTwiceReports : Type 0
AskedTwiceReports = Reports asked_twice 100
    ((main_name, 6, []) ∷ (created 1, 18, From main_name ∷ From main_name ∷ Poll ∷ Poll ∷ []) ∷ []) 0 (
    "asp report 2"
    ∷ "verdict end"
    ∷ "activity 0 6 done"
    ∷ "senders"
    ∷ "activity 0.1 18 serving"
    ∷ "senders 0 0 ? ?"
    ∷ "> 1"
    ∷ "> 0"
    ∷ []
    )

-- let a = active([; go(s) = print(pending()); print(pending(other))]) in a.go(); a.other()
abbrev pub asked_by_label : Tree
asked_by_label = let_in "a"
    (active (object []
    (method "go" "s" [] (steps (print (pending []) ∷ print (pending ("other" ∷ [])) ∷ [])) ∷ [])))
    (steps (call (variable "a") "go" [] ∷ call (variable "a") "other" [] ∷ []))

-- without labels it asks for the methods of the active object, and there is none with that label
abbrev pub AskedByLabelReports : Type 0
AskedByLabelReports = Reports asked_by_label 100
    ((main_name, 6, []) ∷ (created 1, 12, From main_name ∷ From main_name ∷ Poll ∷ Poll ∷ []) ∷ []) 0 (
    "asp report 2"
    ∷ "verdict end"
    ∷ "activity 0 6 done"
    ∷ "senders"
    ∷ "activity 0.1 12 serving"
    ∷ "senders 0 0 ? ?"
    ∷ "> 0"
    ∷ "> 1"
    ∷ []
    )

-- print(pending()); print(pending(a))
abbrev pub asked_by_main : Tree
asked_by_main = steps (print (pending []) ∷ print (pending ("a" ∷ [])) ∷ [])

-- nobody asks anything of main, and its active object has no methods
abbrev pub AskedByMainReports : Type 0
AskedByMainReports = Reports asked_by_main 100 ((main_name, 5, Poll ∷ Poll ∷ []) ∷ []) 0 (
    "asp report 2"
    ∷ "verdict end"
    ∷ "activity 0 5 done"
    ∷ "senders ? ?"
    ∷ "> 0"
    ∷ "> 0"
    ∷ []
    )

-- the log of 0.1 has one sender in both reports of `asked_once`, so a log with a poll is not narrow
pub record NarrowLogs : Type 0 where
  pub none : is_narrow [] ≡ true
  pub one : is_narrow (From main_name ∷ From main_name ∷ From main_name ∷ []) ≡ true
  pub two : is_narrow (From main_name ∷ From main_name ∷ From (created 1) ∷ []) ≡ false
  pub late_poll : is_narrow (From main_name ∷ From main_name ∷ Poll ∷ []) ≡ false
  pub early_poll : is_narrow (Poll ∷ From main_name ∷ []) ≡ false
