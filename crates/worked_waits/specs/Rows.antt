-- What is told of who waits for good, in each of the five ways.
use Rattle.std.specs.Prelude.{◌≡◌, ℕ, List, [], ◌∷◌, Option, Some, None, codes}
use Rattle.asp_model.specs.Names.{Name, FutureShape, main_name}
use Rattle.asp_model.specs.Term.{Tree}
use Rattle.asp_model.specs.Contraction.{ZeroDivisor}
use Rattle.asp_model.specs.Configuration.{RequestShape, Configuration}
use Rattle.asp_model.specs.Replay.{plain_run}
use Rattle.law_waits.specs.Waits.{Pending, InService, wait_of, Cause, ValueCircle, Ended, AtFault, Unserved, ActivityCircle, cause_of}
use Rattle.worked_rows.specs.Reports.{created}
use Rattle.worked_rows.specs.Circles.{circling, circling_twice, self_asking, first_future}
use Rattle.worked_waits.specs.Programs.{asking_each_other, unserved, faulted, ended}

-- the end of the run of one thread
abbrev pub end_of : Tree → Configuration
end_of program = plain_run 100 program

abbrev pub cause_in : Tree → Name → Option Cause
cause_in program n = cause_of (end_of program) n

-- the first future of an activity
abbrev pub future_of : Name → FutureShape
future_of n = record { by = n; index = 1 }

-- a request without arguments
abbrev pub request : List ℕ → Name → RequestShape
request label sender = record { label = label; sender = sender; future = future_of sender; arguments = record { cells = []; roots = [] } }

-- two who ask each other, and main, that asked the second
pub record AskingEachOther : Type 0 where
  pub first : cause_in asking_each_other (created 1) ≡ Some (ActivityCircle (created 1) (created 2 ∷ []))
  pub second : cause_in asking_each_other (created 2) ≡ Some (ActivityCircle (created 2) (created 1 ∷ []))
  pub behind : cause_in asking_each_other main_name ≡ Some (ActivityCircle (created 2) (created 1 ∷ []))
  pub wait : wait_of (end_of asking_each_other) (created 1) ≡ Some (created 2, Pending 1 (request (codes "two") (created 1)))

-- one who asks itself
abbrev pub AskingItself : Type 0
AskingItself = cause_in self_asking (created 1) ≡ Some (ActivityCircle (created 1) [])

-- main awaits a future that is its own value, or two of which each is the other's
pub record Values : Type 0 where
  pub itself : cause_in circling main_name ≡ Some (ValueCircle main_name first_future [])
  pub nobody : wait_of (end_of circling) main_name ≡ None
  pub two : cause_in circling_twice main_name ≡ Some (ValueCircle main_name first_future (record { by = main_name; index = 2 } ∷ []))

-- main waits for one that is at a `serve`, has a fault, or has ended
pub record Single : Type 0 where
  pub served : cause_in unserved main_name ≡ Some (Unserved (created 1) (codes "come" ∷ []))
  pub service : wait_of (end_of unserved) main_name ≡ Some (created 1, InService 0 (request (codes "go") main_name))
  pub fault : cause_in faulted main_name ≡ Some (AtFault (created 1) ZeroDivisor)
  pub over : cause_in ended main_name ≡ Some (Ended (created 1))
