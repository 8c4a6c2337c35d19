-- Leases that come back when they have stopped.
use Rattle.std.specs.Prelude.{◌≡◌, ℕ, false, List, [], ◌∷◌, Some}
use Rattle.asp_model.specs.Configuration.{Activity}
use Rattle.asp_model.specs.History.{Committed, Delivered, EntryShape, HistoryShape, Lent}
use Rattle.asp_model.specs.Names.{Name}
use Rattle.def_journals.specs.Journals.{RunShape, entered, first_run}
use Rattle.code_table.specs.declared.code.Node.{Node}
use Rattle.activity_step.specs.declared.advance.Advance.{Advance}
use Rattle.activity_step.specs.Activities.{IsStopAt, IsUsed}
use Rattle.law_core.specs.Commits.{HasRun}
use Rattle.core_state.specs.declared.lease.Lease.{Lease}
use Rattle.core_state.specs.Leases.{HasStopped}
use Rattle.core_state.specs.Arrivals.{act_at}
use Rattle.asp_core.specs.Runs.{counted}

-- it has stopped, unless it is spent
abbrev pub HasStoppedOr : HistoryShape → List Node → Lease → Type 0
HasStoppedOr h code l = l.spent ≡ false → HasStopped h code l

-- here an activity stops that took so many contractions of its grant: the grant is used, or it cannot go on by itself
pub record StopsAt (taken grant : ℕ) (end : Activity) : Type 0 where
  pub advance : Advance
  pub stop : IsStopAt end advance
  pub used : IsUsed taken grant advance

-- The reductions that an activity which is out took until it stopped; and one more where it stands at a communication
-- that may be done, and one of the grant is left.
pub record HasRunOut (s : RunShape) (k r : ℕ) : Type 0 where
  pub name : Name
  pub grant : ℕ
  pub taken : ℕ
  pub end : Activity
  pub has_run : HasRun s k grant name taken end
  pub stops : StopsAt taken grant end
  pub count : r ≡ counted taken (act_at s name grant taken end)

-- a lease that comes back by this entry had stopped
abbrev pub IsStoppedEntry : RunShape → EntryShape → Type 0
IsStoppedEntry s (Lent k) = Unit {0}
IsStoppedEntry s (Committed k r) = HasRunOut s k r
IsStoppedEntry s (Delivered d) = Unit {0}

abbrev pub AreStoppedFrom : List EntryShape → RunShape → Type 0
AreStoppedFrom [] s = Unit {0}
AreStoppedFrom (x ∷ xs) s = IsStoppedEntry s x × ((t : RunShape) → entered x s ≡ Some t → AreStoppedFrom xs t)

-- each lease that came back in this journal had stopped
abbrev pub AllStopped : HistoryShape → Type 0
AllStopped h = AreStoppedFrom h.entries (first_run h)

abbrev pub StaysStopped : (old new : HistoryShape) → Type 0
StaysStopped old new = AllStopped old → AllStopped new
