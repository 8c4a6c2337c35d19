-- What each seat has out, in rows by the seats' numbers.
use Rattle.std.specs.Prelude.{◌≡◌, ◌≢◌, ◌<◌, ◌≤◌, ◌*◌, ℕ, List, Some}
use Rattle.asp_model.specs.History.{HistoryShape}
use Rattle.asp_model.specs.Names.{Name}
use Rattle.asp_model.specs.Step.{name_at}
use Rattle.asp_model.specs.declared.limits.TheConstants.{MOST_GRANTED}
use Rattle.def_journals.specs.Journals.{RunShape, grant_of}
use Rattle.law_journals.specs.Leases.{IsLentAt}
pub use Rattle.race_desks.specs.LeaseRows.{Row, rounds_in, row}

-- the activity of a number is out with this burst, and has a name
pub record IsOut (h : HistoryShape) (k burst : ℕ) : Type 0 where
  pub run : RunShape
  pub lent : IsLentAt h k burst run
  pub name : Name
  pub named : name_at run.names k ≡ Some name

-- what stands in a row is out
abbrev pub AreOut : HistoryShape → List Row → Type 0
AreOut h rows = (seat : ℕ) (x : ℕ × ℕ × ℕ) → row rows seat ≡ Some x → IsOut h x.0 x.1

-- who is out by a run has its lease in the row of one of so many seats
abbrev pub AreHeld : RunShape → (seats : ℕ) → List Row → Type 0
AreHeld s seats rows = (k grant : ℕ) → grant_of k s.out ≡ Some grant
    → (seat : ℕ) × (burst : ℕ) × (rounds : ℕ) × (seat < seats) × (row rows seat ≡ Some (k, burst, rounds))

-- no two seats have the same activity
abbrev pub AreApart : List Row → Type 0
AreApart rows = (m n : ℕ) (x y : ℕ × ℕ × ℕ) → m ≢ n → row rows m ≡ Some x → row rows n ≡ Some y → x.0 ≢ y.0

-- the grants that are kept for all seats are left in the budget
abbrev pub AreReserved : RunShape → List Row → Type 0
AreReserved s rows = rounds_in rows * MOST_GRANTED ≤ s.left
