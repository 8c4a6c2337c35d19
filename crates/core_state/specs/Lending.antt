-- What a lend gives and leaves, and who is next.
use Rattle.std.specs.Prelude.{◌≡◌, ◌≤◌, ℕ, true, false, List, Option, Some, None}
use Rattle.asp_model.specs.History.{HistoryShape, Lent, with_entry}
use Rattle.def_journals.specs.Journals.{RunShape}
use Rattle.law_journals.specs.Entered.{with_lease}
use Rattle.law_journals.specs.Leases.{bursts_in}
use Rattle.code_table.specs.declared.code.Node.{Node}
use Rattle.law_core.specs.Runs.{is_ready}
use Rattle.core_state.specs.declared.lease.Lease.{Lease}
use Rattle.core_state.specs.declared.state.CoreState.{CoreState}
use Rattle.core_state.specs.Leases.{IsLease}
use Rattle.core_state.specs.Cores.{IsCore}

-- a lease of the newest entry, which has taken nothing
pub record IsNewLease (h : HistoryShape) (code : List Node) (k : ℕ) (x : Lease) : Type 0 where
  pub lease : IsLease h code x
  pub number : x.number ≡ k
  pub burst : x.burst ≡ bursts_in h.entries
  pub taken : x.taken ≡ 0
  pub fresh : x.spent ≡ false

-- an activity that is ready is lent, with one entry more; if it is not ready, nothing changes
abbrev pub IsLentBy : HistoryShape → List Node → RunShape → ℕ → (old : CoreState) → Option Lease → (new : CoreState) → Type 0
IsLentBy h code s k old None new = (is_ready s k ≡ false) × (new ≡ old)
IsLentBy h code s k old (Some x) new = (is_ready s k ≡ true) × IsCore (with_entry h (Lent k)) code new (with_lease s k) × IsNewLease (with_entry h (Lent k)) code k x

-- the lowest-numbered activity that is ready; none if no activity is
abbrev pub IsNextReady : RunShape → Option ℕ → Type 0
IsNextReady s None = (k : ℕ) → is_ready s k ≡ false
IsNextReady s (Some k) = (is_ready s k ≡ true) × ((j : ℕ) → is_ready s j ≡ true → k ≤ j)
