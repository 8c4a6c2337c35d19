-- A lease that comes back with its whole grant used, and goes out again.
use Rattle.std.specs.Prelude.{◌≡◌, ◌-◌, ℕ, suc, false, List}
use Rattle.asp_model.specs.Configuration.{Activity}
use Rattle.asp_model.specs.History.{Committed, HistoryShape, Lent, with_entry}
use Rattle.def_journals.specs.Journals.{RunShape}
use Rattle.code_table.specs.declared.code.Node.{Node}
use Rattle.law_core.specs.Commits.{HasRun}
use Rattle.law_renewals.specs.Renewals.{IsRenewed, renewed}
use Rattle.core_state.specs.declared.state.CoreState.{CoreState}
use Rattle.core_state.specs.Cores.{IsCore}
use Rattle.long_leases.specs.declared.long_lease.LongLease.{LongLease}
use Rattle.long_leases.specs.LongLeases.{HasEnded, IsLongLease}

-- the history with the commit of a grant, and the next lend
abbrev pub with_renewal : HistoryShape → (k grant : ℕ) → HistoryShape
with_renewal h k grant = with_entry (with_entry h (Committed k grant)) (Lent k)

-- the core stands for the run with both entries, and what is left of the lease is out by them
pub record IsRenewedBy (h : HistoryShape) (code : List Node) (s : RunShape) (old : LongLease)
    (l : IsLongLease h code old) (y : CoreState) (new : LongLease) : Type 0 where
  -- what it took, and from where
  pub end : Activity
  pub has_run : HasRun s old.lease.number old.lease.grant l.name old.lease.taken end
  pub from : has_run.activity ≡ l.activity
  pub renewal : IsRenewed s old.lease.number old.lease.grant l.name old.lease.taken l.activity end
  pub core : IsCore (with_renewal h old.lease.number old.lease.grant) code y
      (renewed s old.lease.number l.name renewal.here)
  pub lease : IsLongLease (with_renewal h old.lease.number old.lease.grant) code new
  pub number : new.lease.number ≡ old.lease.number
  pub taken : new.lease.taken ≡ old.lease.taken - old.lease.grant
  pub rounds : suc new.rounds ≡ old.rounds
  -- it has ended where it had
  pub ended : HasEnded h code old → HasEnded (with_renewal h old.lease.number old.lease.grant) code new

-- somebody has such a lease of this core
abbrev pub IsSomeLongLease : CoreState → LongLease → Type 0
IsSomeLongLease x l = (h : HistoryShape) × (code : List Node) × (s : RunShape) × IsCore h code x s
    × IsLongLease h code l
