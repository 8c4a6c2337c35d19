-- What the calls of a core give and leave.
use Rattle.std.specs.Prelude.{◌≡◌, ◌≤◌, ◌*◌, ◌-◌, ℕ, true, false, Option, Some, None, length, is_some}
use Rattle.asp_model.specs.Configuration.{Activity}
use Rattle.asp_model.specs.History.{Committed, DeliveryShape, EntryShape, Lent, with_entry}
use Rattle.asp_model.specs.Names.{Name}
use Rattle.asp_model.specs.Status.{VerdictShape}
use Rattle.law_journals.specs.EdgesKept.{sends_in}
use Rattle.def_journals.specs.Journals.{RunShape, delivered}
use Rattle.def_journals.specs.Owed.{next_owed, verdict_told}
use Rattle.law_journals.specs.Entered.{with_lease}
use Rattle.law_core.specs.Runs.{is_ready}
use Rattle.law_core.specs.Commits.{HasRun}
use Rattle.core_state.specs.declared.lease.Lease.{Lease}
use Rattle.core_state.specs.Lending.{IsNewLease}
use Rattle.core_state.specs.Arrivals.{act_at}
use Rattle.asp_core.specs.declared.cores.Core.{Core}
use Rattle.asp_core.specs.Cores.{IsRun, code_of, history_of}
use Rattle.asp_core.specs.Runs.{counted}

-- the condition of a delivery, by the definition of its entry
abbrev pub MayDeliver : RunShape → DeliveryShape → Type 0
MayDeliver s d = is_some (delivered d s) ≡ true

module _ {P : Type 0} where
  -- the journal has this entry more
  abbrev pub HasEntered : (old : Core P) → EntryShape → (new : Core P) → Type 0
  HasEntered old x new = history_of new ≡ with_entry (history_of old) x

  -- who is ready is lent, and nothing changes where it is not
  abbrev pub IsLentBy : (old : Core P) → RunShape → ℕ → Option Lease → (new : Core P) → Type 0
  IsLentBy old s k None new = (is_ready s k ≡ false) × (new ≡ old)
  IsLentBy old s k (Some l) new =
      (is_ready s k ≡ true) × HasEntered old (Lent k) new × IsRun new (with_lease s k)
      × IsNewLease (history_of new) (code_of new) k l

  -- there are no more edges than futures times ordered pairs of activities
  abbrev pub IsBounded : Core P → RunShape → Type 0
  IsBounded x s =
      length x.edges.holders.holders.edges
      ≤ sends_in s.configuration.activities * (length s.configuration.activities * (length s.configuration.activities - 1))

  -- the journal has one entry more, and the core is its run
  pub record HasGoneOn (old : Core P) (x : EntryShape) (new : Core P) : Type 0 where
    pub entered : HasEntered old x new
    pub after : RunShape
    pub run : IsRun new after
    pub bounded : IsBounded new after

  -- a lease came back: its contractions led here, and the communication that stands here was done exactly
  -- where it may be and one of the grant is left
  pub record IsCommittedBy (old : Core P) (s : RunShape) (l : Lease) (n : Name) (new : Core P) : Type 0 where
    pub end : Activity
    pub has_run : HasRun s l.number l.grant n l.taken end
    pub on : HasGoneOn old (Committed l.number (counted l.taken (act_at s n l.grant l.taken end))) new

  abbrev pub owed_next : Core P → RunShape → Option DeliveryShape
  owed_next x s = next_owed s x.edges.holders.holders x.edges.holders.answers

  abbrev pub verdict_of : Core P → RunShape → Option VerdictShape
  verdict_of x s = verdict_told s x.edges.holders.holders x.edges.holders.answers
