-- A lease of a core that goes on beyond its grant.
use Rattle.std.specs.Prelude.{◌≡◌, ◌≤◌, ◌*◌}
use Rattle.asp_model.specs.declared.limits.TheConstants.{MOST_GRANTED}
use Rattle.def_journals.specs.Journals.{RunShape}
use Rattle.law_renewals.specs.Renewals.{renewed}
use Rattle.long_leases.specs.declared.long_lease.LongLease.{LongLease}
use Rattle.long_leases.specs.LongLeases.{HasEnded, IsLongLease}
use Rattle.long_leases.specs.Renewing.{IsRenewedBy, with_renewal}
use Rattle.asp_core.specs.declared.cores.Core.{Core}
use Rattle.asp_core.specs.Cores.{IsRun, code_of, history_of}

module _ {P : Type 0} where
  -- the grants that may follow are left in its budget
  abbrev pub IsReservedFor : Core P → LongLease → Type 0
  IsReservedFor x l = (s : RunShape) → IsRun x s → l.rounds * MOST_GRANTED ≤ s.left

  -- the journal has two entries more, the commit of the whole grant and the next lend, and the core is its run
  pub record IsRenewedIn (old : Core P) (s : RunShape) (l : LongLease)
      (lease : IsLongLease (history_of old) (code_of old) l) (new : Core P) (now : LongLease) : Type 0 where
    pub by : IsRenewedBy (history_of old) (code_of old) s l lease new.state now
    pub entered : history_of new ≡ with_renewal (history_of old) l.lease.number l.lease.grant
    pub run : IsRun new (renewed s l.lease.number lease.name by.renewal.here)
    pub still : IsLongLease (history_of new) (code_of new) now
    -- it has ended where it had
    pub ended : HasEnded (history_of old) (code_of old) l → HasEnded (history_of new) (code_of new) now
