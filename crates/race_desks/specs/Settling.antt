-- A lease that has the last of its grants: what entering the others leaves of a core.
use Rattle.std.specs.Prelude.{◌≡◌, ◌≢◌, ◌+◌, ◌*◌, ◌≤◌, ℕ, List}
use Rattle.asp_model.specs.History.{BeginsWith, HistoryShape}
use Rattle.asp_model.specs.declared.limits.TheConstants.{MOST_GRANTED}
use Rattle.def_journals.specs.Journals.{RunShape, out_but}
use Rattle.code_table.specs.declared.code.Node.{Node}
use Rattle.core_edges.specs.Answers.{Answering, Counting}
use Rattle.core_state.specs.declared.lease.Lease.{Lease}
use Rattle.core_state.specs.Leases.{IsLease}
use Rattle.long_leases.specs.declared.long_lease.LongLease.{LongLease}
use Rattle.asp_core.specs.declared.cores.Core.{Core}
use Rattle.asp_core.specs.Cores.{IsKept, IsRun, code_of, history_of}
use Rattle.asp_core.specs.Stopping.{HasStoppedOr}
use Rattle.race_desks.specs.Desks.{KeepsUnlessSpent}
use Rattle.race_desks.specs.Rows.{IsOut}

-- a lease that was run: it has stopped, unless memory ran out
abbrev pub IsStopped : HistoryShape → List Node → Lease → Type 0
IsStopped h code l = IsLease h code l × HasStoppedOr h code l

module _ {P : Type 0} where
  -- each run comes from one before, in which the same are out beside this number, and with no more budget left than
  -- is left now and was kept for the lease
  abbrev pub ComesBut : (old new : Core P) → (k rounds : ℕ) → Type 0
  ComesBut old new k rounds = (t : RunShape) → IsRun new t
      → (s : RunShape) × IsRun old s × (out_but k t.out ≡ out_but k s.out) × (s.left ≤ t.left + rounds * MOST_GRANTED)

  -- the history goes on, and all others stay as they are
  pub record IsSettled (answers : Answering P) (counts : Counting P) (old : Core P) (l : LongLease)
      (new : Core P) : Type 0 where
    pub later : BeginsWith (history_of new) (history_of old)
    pub code : code_of new ≡ code_of old
    pub kept : IsKept new
    pub core : KeepsUnlessSpent answers counts old new
    pub others : (j burst : ℕ) → j ≢ l.lease.number → IsOut (history_of old) j burst → IsOut (history_of new) j burst
    pub comes : ComesBut old new l.lease.number l.rounds

  -- and it is in, by its commit
  pub record IsBack (answers : Answering P) (counts : Counting P) (old : Core P) (l : LongLease)
      (new : Core P) : Type 0 where
    pub later : BeginsWith (history_of new) (history_of old)
    pub code : code_of new ≡ code_of old
    pub kept : IsKept new
    pub core : KeepsUnlessSpent answers counts old new
    pub others : (j burst : ℕ) → j ≢ l.lease.number → IsOut (history_of old) j burst → IsOut (history_of new) j burst
    pub comes : (t : RunShape) → IsRun new t → (s : RunShape) × IsRun old s × (t.out ≡ out_but l.lease.number s.out)
    pub left : (t : RunShape) → IsRun new t → (s : RunShape) × IsRun old s × (s.left ≤ t.left + l.rounds * MOST_GRANTED)
