-- A lease, as a fact of a history alone: whoever has it may bring it back.
use Rattle.std.specs.Prelude.{◌≡◌, ◌≤◌, false, List, Some}
use Rattle.asp_model.specs.Configuration as model
use Rattle.asp_model.specs.Configuration.{ReceptionShape, RequestShape, log_of, requests_of}
use Rattle.asp_model.specs.History.{HistoryShape}
use Rattle.asp_model.specs.Names.{Name}
use Rattle.asp_model.specs.Step.{name_at}
use Rattle.def_journals.specs.Journals.{RunShape, granted}
use Rattle.law_steps.specs.Reached.{IsAt}
use Rattle.law_journals.specs.Leases.{IsLentAt}
use Rattle.code_table.specs.declared.code.Node.{Node}
use Rattle.activity_step.specs.declared.advance.Advance.{Advance}
use Rattle.activity_step.specs.Activities.{IsStopAt, IsUsed}
use Rattle.activity_step.specs.Local.{LocalRun}
use Rattle.step_activity.specs.Actors.{Stands, code_of, log_in}
use Rattle.core_state.specs.declared.lease.Lease.{Lease}

-- so far it took contractions that need no other, from the activity as it was lent, with the log of then
pub record HasDone (code : List Node) (x : Lease) (a : model.Activity) (rs : List RequestShape) (log : List ReceptionShape) : Type 0 where
  pub end : model.Activity
  pub run : LocalRun x.taken a end
  pub stands : Stands x.actor.value end rs
  pub coded : code_of x.actor.value ≡ code
  pub logged : log_in x.actor.value ≡ log

-- it is out by this history, and has taken no more than its grant; spent, it has nothing else
pub record IsLease (h : HistoryShape) (code : List Node) (x : Lease) : Type 0 where
  -- in which it was lent
  pub run : RunShape
  pub lent : IsLentAt h x.number x.burst run
  pub name : Name
  pub named : name_at run.names x.number ≡ Some name
  pub activity : model.Activity
  pub there : IsAt run.configuration name activity
  pub grant : x.grant ≡ granted run
  pub within : x.taken ≤ x.grant
  pub done : x.spent ≡ false → HasDone code x activity (requests_of run.configuration name) (log_of run.configuration name)

-- its grant is used, or it has come to where its activity stops
pub record HasStopped (h : HistoryShape) (code : List Node) (x : Lease) : Type 0 where
  pub lease : IsLease h code x
  pub fresh : x.spent ≡ false
  pub advance : Advance
  pub stop : IsStopAt (lease.done fresh).end advance
  pub used : IsUsed x.taken x.grant advance
