-- A core with the leases that are out.
use Rattle.std.specs.Prelude.{◌≡◌, ℕ, Bool, true, List, Option, Some, None}
use Rattle.std.specs.BTreeMap.{get}
use Rattle.std.specs.Ordering.{nat_cmp}
use Rattle.asp_model.specs.History.{HistoryShape}
use Rattle.def_journals.specs.Journals.{RunShape, grant_of}
use Rattle.code_table.specs.declared.code.Node.{Node}
use Rattle.core_state.specs.declared.lease.Lease.{Lease}
use Rattle.core_state.specs.Leases.{HasStopped, IsLease}
use Rattle.asp_core.specs.Cores.{IsRun, code_of, history_of}
use Rattle.core_drives.specs.declared.drivers.Driver.{Driver}

-- who is out has a lease, under its number, and nobody else has one
abbrev pub IsHeldAt : HistoryShape → List Node → ℕ → (grant : Option ℕ) → Option Lease → Type 0
IsHeldAt h code k None None = Unit {0}
IsHeldAt h code k (Some grant) (Some l) = (l.number ≡ k) × IsLease h code l
IsHeldAt h code k None (Some l) = ⊥
IsHeldAt h code k (Some grant) None = ⊥

-- the core is not spent, and each lease that is out is here
pub record IsDriving {P : Type 0} (x : Driver P) : Type 0 where
  pub run : RunShape
  pub is : IsRun x.core run
  pub held : (k : ℕ) → IsHeldAt (history_of x.core) (code_of x.core) k (grant_of k run.out) (get nat_cmp x.leases k)

-- who has run has a lease that has stopped
abbrev pub HaveRun : {P : Type 0} → (ran : ℕ → Bool) → Driver P → Type 0
HaveRun ran x = (k : ℕ) (l : Lease) → ran k ≡ true → get nat_cmp x.leases k ≡ Some l
    → HasStopped (history_of x.core) (code_of x.core) l
