-- The end of a run as data.
use Rattle.std.specs.Prelude.{ℕ, Bool, true, false, List, map, cond}
use Rattle.std.specs.List.{list_any}
use Rattle.asp_model.specs.Names.{Name}
use Rattle.asp_model.specs.Contraction.{LineShape}
use Rattle.asp_model.specs.Configuration.{ReceptionShape, Configuration, Activity, log_of}
use Rattle.asp_model.specs.Intent.{StatusShape, Faulted}
use Rattle.asp_model.specs.Step.{ListsShape}
use Rattle.asp_model.specs.Replay.{CountsShape}
use Rattle.asp_model.specs.Status.{VerdictShape, End, Blocked, Budget, status_of, verdict_of}

-- an activity at the end: its name, reductions, status, log and output
pub record ActivityReportShape : Type 0 where
  pub name : Name
  pub count : ℕ
  pub status : StatusShape
  pub senders : List ReceptionShape
  pub lines : List LineShape

-- the activities in ascending order of names
pub record OutcomeShape : Type 0 where
  pub verdict : VerdictShape
  pub activities : List ActivityReportShape

-- what a configuration has of an activity at the end
abbrev pub activity_report : Configuration → Name × Activity → ActivityReportShape
activity_report c x = record {
  name = x.0;
  count = x.1.reductions;
  status = status_of c x.0;
  senders = log_of c x.0;
  lines = x.1.lines;
}

-- the outcome of a configuration
abbrev pub outcome_of : Configuration → OutcomeShape
outcome_of c = record { verdict = verdict_of c; activities = map (activity_report c) c.activities }

-- the logs that an outcome shows
abbrev pub lists_in : OutcomeShape → ListsShape
lists_in o = map (λ a. (a.name, a.senders)) o.activities

-- the counts that an outcome shows
abbrev pub counts_in : OutcomeShape → CountsShape
counts_in o = map (λ a. (a.name, a.count)) o.activities

-- an activity stands at a fault
abbrev pub is_faulted : StatusShape → Bool
is_faulted (Faulted fault) = true
is_faulted s = false

-- the exit status: 0 at an end without faults, 1 at an end with one, 4 where blocked, 5 where the budget ran out
abbrev pub exit_status : OutcomeShape → ℕ
exit_status o = elim o.verdict [
  | End ↦ cond (list_any (λ a. is_faulted a.status) o.activities) 1 0
  | Blocked ↦ 4
  | Budget ↦ 5
]
