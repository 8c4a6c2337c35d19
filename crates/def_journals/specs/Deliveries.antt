-- Deliveries of futures' values into the store of an activity.
use Rattle.std.specs.Prelude.{ℕ, suc, Bool, true, false, List, [], ◌∷◌, Option, Some, None}
use Rattle.std.specs.FinMap.{find, put}
use Rattle.asp_model.specs.Names.{Name, FutureShape, name_cmp, future_cmp, same_future}
use Rattle.asp_model.specs.Store.{CellShape, Future, Store, cell}
use Rattle.asp_model.specs.Parcel.{ParcelShape, unpack_at}
use Rattle.asp_model.specs.Chase.{Chase, Value, Unfilled, Cycle, chase}
use Rattle.asp_model.specs.Configuration.{Activity, Configuration}

-- the cell is this future
abbrev pub is_held : FutureShape → CellShape → Bool
is_held f (Future g) = same_future f g
is_held f c = false

-- the places, from this number on, that hold a future, in ascending order
abbrev pub holders_from : ℕ → FutureShape → Store → List ℕ
holders_from n f [] = []
holders_from n f (c ∷ cs) = elim (is_held f c) [
  | true ↦ n ∷ holders_from (suc n) f cs
  | false ↦ holders_from (suc n) f cs
]

-- a copy of its own of the value at each place
abbrev pub unpack_each : Store → List ℕ → ParcelShape → Store
unpack_each s [] p = s
unpack_each s (n ∷ ns) p = unpack_each (unpack_at s n p) ns p

-- the configuration in which the activity of this name has this store
abbrev pub with_store : Configuration → Name → Activity → Store → Configuration
with_store c n a s = record c { activities = put name_cmp n (record a { store = s }) c.activities }

-- the value at each place that holds the future before
abbrev pub at_holders : Configuration → FutureShape → Name → Activity → Option ParcelShape → Option Configuration
at_holders c f to a None = None
at_holders c f to a (Some p) = Some (with_store c to a (unpack_each a.store (holders_from 0 f a.store) p))

-- along an edge: the own value of a future, for all that the activity holds of it; none where it is not
-- filled, or nobody has that name
abbrev pub edge_delivered : Configuration → FutureShape → Name → Option Configuration
edge_delivered c f to = elim (find name_cmp to c.activities) [
  | None ↦ None
  | Some a ↦ at_holders c f to a (find future_cmp f c.futures)
]

-- the value to which a future leads, where it is the own value of f
abbrev pub value_of : FutureShape → Chase → Option ParcelShape
value_of f (Value g p) = elim (same_future f g) [ true ↦ Some p | false ↦ None ]
value_of f (Unfilled g) = None
value_of f (Cycle g) = None

-- and to which the future in a cell leads
abbrev pub value_needed : (FutureShape → Chase) → FutureShape → CellShape → Option ParcelShape
value_needed chases f (Future g) = value_of f (chases g)
value_needed chases f c = None

-- the value, if there is one, in place of the cell at one place
abbrev pub at_place : Configuration → Name → ℕ → Activity → Option ParcelShape → Option Configuration
at_place c to place a None = None
at_place c to place a (Some p) = Some (with_store c to a (unpack_at a.store place p))

-- at a need: the value of f, at one place that holds a future which leads to it
abbrev pub need_delivered : Configuration → FutureShape → Name → ℕ → Option Configuration
need_delivered c f to place = elim (find name_cmp to c.activities) [
  | None ↦ None
  | Some a ↦ at_place c to place a (value_needed (chase c.futures) f (cell a.store place))
]
