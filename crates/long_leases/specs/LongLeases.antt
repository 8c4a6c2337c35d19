-- A lease with further grants, as a fact of a history alone: whoever has it may bring it back.
use Rattle.std.specs.Prelude.{◌≡◌, ◌≤◌, ◌+◌, ◌*◌, ℕ, false, List, Some}
use Rattle.asp_model.specs.Configuration as model
use Rattle.asp_model.specs.Configuration.{log_of, requests_of}
use Rattle.asp_model.specs.History.{HistoryShape}
use Rattle.asp_model.specs.Names.{Name}
use Rattle.asp_model.specs.Step.{name_at}
use Rattle.asp_model.specs.declared.limits.TheConstants.{MOST_GRANTED}
use Rattle.def_journals.specs.Journals.{RunShape, granted}
use Rattle.law_steps.specs.Reached.{IsAt}
use Rattle.law_journals.specs.Leases.{IsLentAt}
use Rattle.code_table.specs.declared.code.Node.{Node}
use Rattle.activity_step.specs.declared.advance.Advance.{Advance}
use Rattle.activity_step.specs.Activities.{IsStopAt, IsUsed}
use Rattle.core_state.specs.Leases.{HasDone}
use Rattle.long_leases.specs.declared.long_lease.LongLease.{LongLease}

-- how many contractions it may take: those of its grant, and of those that may follow
abbrev pub most_of : LongLease → ℕ
most_of x = x.lease.grant + x.rounds * MOST_GRANTED

-- it is out by this history, as a lease is, but may have taken more than its grant
pub record IsLongLease (h : HistoryShape) (code : List Node) (x : LongLease) : Type 0 where
  -- in which it was lent
  pub run : RunShape
  pub lent : IsLentAt h x.lease.number x.lease.burst run
  pub name : Name
  pub named : name_at run.names x.lease.number ≡ Some name
  pub activity : model.Activity
  pub there : IsAt run.configuration name activity
  pub grant : x.lease.grant ≡ granted run
  pub within : x.lease.taken ≤ most_of x
  pub done : x.lease.spent ≡ false
      → HasDone code x.lease activity (requests_of run.configuration name) (log_of run.configuration name)

-- all that it may take is taken, or it has come to where its activity stops
pub record HasEnded (h : HistoryShape) (code : List Node) (x : LongLease) : Type 0 where
  pub lease : IsLongLease h code x
  pub fresh : x.lease.spent ≡ false
  pub advance : Advance
  pub stop : IsStopAt (lease.done fresh).end advance
  pub used : IsUsed x.lease.taken (most_of x) advance
