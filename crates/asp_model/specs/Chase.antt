-- Chases: from a future to its value, to a future without one, or round a cycle.
use Rattle.std.specs.Prelude.{ℕ, zero, suc, ◌+◌, Bool, true, false, List, [], ◌∷◌, Option, Some, None, length, map, filter}
use Rattle.std.specs.FinMap.{find}
use Rattle.asp_model.specs.Names.{FutureShape, future_cmp, same_future, future_lt}
use Rattle.asp_model.specs.Store.{CellShape, Future, cell}
use Rattle.asp_model.specs.Parcel.{ParcelShape}

-- the filled futures with their values, in the order of names
abbrev pub Values : Type 0
Values = List (FutureShape × ParcelShape)

-- where a walk goes from a future
pub data Lead : Type 0 where
  Ends : (value : ParcelShape) → Lead
  Goes : (next : FutureShape) → Lead
  Misses : Lead

-- a value goes on where its root is a future, and ends a walk where it is none
abbrev pub lead_by : ParcelShape → CellShape → Lead
lead_by p (Future g) = Goes g
lead_by p c = Ends p

-- a future without a value leads nowhere
abbrev pub lead_of : Option ParcelShape → Lead
lead_of None = Misses
lead_of (Some p) = lead_by p (cell p.cells 0)

-- by the root of the future's value
abbrev pub lead : Values → FutureShape → Lead
lead values f = lead_of (find future_cmp f values)

-- where a chase from a future ends
pub data Chase : Type 0 where
  -- the future whose value has a root that is no future, and that value
  Value : (f : FutureShape) (value : ParcelShape) → Chase
  Unfilled : (f : FutureShape) → Chase
  -- the least of all filled futures whose walk comes into the cycle
  Cycle : (f : FutureShape) → Chase

-- the end of a walk that has one within n futures
abbrev pub walk_end : ℕ → Values → FutureShape → Option Chase
walk_end zero values f = None
walk_end (suc n) values f = elim (lead values f) [
  | Ends p ↦ Some (Value f p)
  | Goes g ↦ walk_end n values g
  | Misses ↦ Some (Unfilled f)
]

-- where a walk is after n steps
abbrev pub walked_to : ℕ → Values → FutureShape → FutureShape
walked_to zero values f = f
walked_to (suc n) values f = elim (lead values f) [ Ends p ↦ f | Goes g ↦ walked_to n values g | Misses ↦ f ]

-- a walk of n steps comes by a future
abbrev pub comes_by : ℕ → Values → FutureShape → FutureShape → Bool
comes_by zero values to f = same_future f to
comes_by (suc n) values to f = elim (same_future f to) [
  | true ↦ true
  | false ↦ elim (lead values f) [ Ends p ↦ false | Goes g ↦ comes_by n values to g | Misses ↦ false ]
]

-- the lesser of two futures
abbrev pub lesser : FutureShape → FutureShape → FutureShape
lesser f g = elim (future_lt g f) [ true ↦ g | false ↦ f ]

-- the least of a future and these
abbrev pub least_of : FutureShape → List FutureShape → FutureShape
least_of f [] = f
least_of f (g ∷ gs) = least_of (lesser f g) gs

-- a walk that has not ended after as many steps as futures are filled is in a cycle, and as many more go round it
abbrev pub cycle_of : Values → FutureShape → FutureShape
cycle_of values f =
    let inside : FutureShape = walked_to (length values) values f in
    least_of f (filter (comes_by (length values + length values) values inside) (map (λ v. v.0) values))

-- from a future along its values, to the end of the walk
abbrev pub chase : Values → FutureShape → Chase
chase values f = elim (walk_end (suc (length values)) values f) [ Some c ↦ c | None ↦ Cycle (cycle_of values f) ]
