-- What a delivery makes of a core.
use Rattle.std.specs.Prelude.{◌≡◌, ℕ, true, List, Some, is_some}
use Rattle.asp_model.specs.Chase.{chase}
use Rattle.asp_model.specs.Configuration.{Activity}
use Rattle.asp_model.specs.History.{Delivered, DeliveryShape, Edge, HistoryShape, Need, with_entry}
use Rattle.asp_model.specs.Names.{Name, FutureShape}
use Rattle.asp_model.specs.Parcel.{ParcelShape, unpack_at}
use Rattle.asp_model.specs.Store.{cell}
use Rattle.def_journals.specs.Deliveries.{holders_from, unpack_each, value_needed}
use Rattle.def_journals.specs.Journals.{RunShape, delivered, entered}
use Rattle.law_steps.specs.Reached.{HasValue, IsThere}
use Rattle.law_journals.specs.Entered.{IsIn, with_store_of}
use Rattle.core_ranks.specs.Ranks.{HasNeed, RankShape}
use Rattle.code_table.specs.declared.code.Node.{Node}
use Rattle.core_state.specs.declared.state.CoreState.{CoreState}
use Rattle.core_state.specs.Cores.{IsCore}

-- the activity of a number is in, and its place holds a future that leads to the value of this one
pub record IsNeeded (s : RunShape) (k : ℕ) (place : ℕ) (f : FutureShape) : Type 0 where
  pub name : Name
  pub activity : Activity
  pub here : IsIn s k name activity
  pub value : ParcelShape
  pub needed : value_needed (chase s.configuration.futures) f (cell activity.store place) ≡ Some value

-- the value was delivered there, and nothing else
abbrev pub IsNeedDelivered : (h : HistoryShape) (code : List Node) (s : RunShape) (k place : ℕ) (f : FutureShape)
    → IsNeeded s k place f → CoreState → Type 0
IsNeedDelivered h code s k place f x new =
    IsCore (with_entry h (Delivered (Need f x.name place))) code new
    (with_store_of s x.name x.activity (unpack_at x.activity.store place x.value))

-- some history of this core has such a need
abbrev pub IsSomeNeed : CoreState → ℕ → ℕ → FutureShape → Type 0
IsSomeNeed x k place f = (h : HistoryShape) × (code : List Node) × (s : RunShape)
    × IsCore h code x s × IsNeeded s k place f

-- the activity of a number is in, somebody has the name of who passed it the future, and that has a value
pub record IsPassed (s : RunShape) (k : ℕ) (f : FutureShape) (from : Name) : Type 0 where
  pub name : Name
  pub activity : Activity
  pub here : IsIn s k name activity
  pub sender : IsThere s.configuration from
  pub value : ParcelShape
  pub filled : HasValue s.configuration f value

-- a copy of its own of the value was delivered at each place that held the future, and nothing else
abbrev pub IsEdgeDelivered : (h : HistoryShape) (code : List Node) (s : RunShape) (k : ℕ) (f : FutureShape) (from : Name)
    → IsPassed s k f from → CoreState → Type 0
IsEdgeDelivered h code s k f from x new =
    IsCore (with_entry h (Delivered (Edge f from x.name))) code new
    (with_store_of s x.name x.activity (unpack_each x.activity.store (holders_from 0 f x.activity.store) x.value))

-- some history of this core allows it
abbrev pub IsSomePassed : CoreState → ℕ → FutureShape → Name → Type 0
IsSomePassed x k f from = (h : HistoryShape) × (code : List Node) × (s : RunShape)
    × IsCore h code x s × IsPassed s k f from

-- any delivery was entered: the same activities are there, and the same are out
abbrev pub IsDelivered : HistoryShape → List Node → RunShape → DeliveryShape → CoreState → Type 0
IsDelivered h code s d new = (t : RunShape) × (entered (Delivered d) s ≡ Some t) × (t.names ≡ s.names) × (t.out ≡ s.out)
    × IsCore (with_entry h (Delivered d)) code new t

-- some history of this core lets it be entered
abbrev pub IsSomeDelivery : CoreState → DeliveryShape → Type 0
IsSomeDelivery x d = (h : HistoryShape) × (code : List Node) × (s : RunShape)
    × IsCore h code x s × (is_some (delivered d s) ≡ true)

-- after a look where a value was owed; elsewhere the rank is as before
abbrev pub looked_at : (was told : RankShape) → RankShape
looked_at HasNeed told = told
looked_at was told = was
