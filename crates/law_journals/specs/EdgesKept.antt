-- The edges that a lawful history leaves: pairwise different, between activities that are there, and so not many.
use Rattle.std.specs.Prelude.{◌≡◌, ◌≢◌, ℕ, ◌*◌, ◌+◌, ◌-◌, ◌<◌, ◌≤◌, true, false, List, [], ◌∷◌, Some, length}
use Rattle.asp_model.specs.Names.{Name, FutureShape, same_name}
use Rattle.asp_model.specs.Store.{CellShape, Store}
use Rattle.asp_model.specs.Parcel.{ParcelShape, parcel_of}
use Rattle.asp_model.specs.Configuration.{Activity, Configuration}
use Rattle.asp_model.specs.History.{HistoryShape}
use Rattle.def_journals.specs.Deliveries.{is_held, edge_delivered}
use Rattle.def_journals.specs.Journals.{RunShape, first_in, run_of}
use Rattle.def_journals.specs.Edges.{EdgeShape, Event, HoldersShape, first_holders, has_edge, after_events}
use Rattle.def_journals.specs.Passing.{futures_in, holders_of}
use Rattle.law_steps.specs.Reached.{IsThere, IsAt, HasValue}
use Rattle.law_steps.specs.Kept.{IsBegun}
use Rattle.law_steps.specs.Linked.{Each}
use Rattle.law_steps.specs.Sound.{IsSound}

-- pairwise different, and none from an activity to itself
abbrev pub AreEdges : List EdgeShape → Type 0
AreEdges [] = Unit {0}
AreEdges (x ∷ xs) = (same_name x.from x.to ≡ false) × (has_edge x xs ≡ false) × AreEdges xs

-- whatever events come: the edges are such, and so are those that were delivered, which are kept
abbrev pub EdgesAreDistinct : Type 0
EdgesAreDistinct = (c : Configuration) (events : List Event)
    → let h : HoldersShape = after_events events (first_holders c) in
    AreEdges h.edges × AreEdges h.delivered × Each (λ x. has_edge x h.edges ≡ true) h.delivered

-- of a future that was begun, between two that are there
abbrev pub IsKnownEdge : Configuration → EdgeShape → Type 0
IsKnownEdge c x = IsBegun c x.future × IsThere c x.from × IsThere c x.to

-- so are all edges of a history
abbrev pub EdgesAreKnown : Type 0
EdgesAreKnown = (h : HistoryShape) (s : RunShape) → IsSound (first_in h).configuration → run_of h ≡ Some s
    → Each (IsKnownEdge s.configuration) (holders_of h).edges

-- how many futures were begun
abbrev pub sends_in : List (Name × Activity) → ℕ
sends_in [] = 0
sends_in (x ∷ xs) = x.1.sends + sends_in xs

-- no more edges than futures times ordered pairs of activities
abbrev pub EdgesAreBounded : Type 0
EdgesAreBounded = (h : HistoryShape) (s : RunShape) → IsSound (first_in h).configuration → run_of h ≡ Some s
    → let c : Configuration = s.configuration in
    length (holders_of h).edges
    ≤ sends_in c.activities * (length c.activities * (length c.activities - 1))

-- A future that was updated before

abbrev pub HoldsNot : FutureShape → List CellShape → Type 0
HoldsNot f = Each (λ x. is_held f x ≡ false)

-- a parcel holds no future that its store does not hold, so none of its edges is of that future
abbrev pub ParcelsHoldLess : Type 0
ParcelsHoldLess = (f : FutureShape) (s : Store) (roots : List ℕ) → HoldsNot f s
    → Each (λ g. f ≢ g) (futures_in (parcel_of s roots).cells)

-- and along an edge all that the receiver holds of a future is updated, where its value, which has a root, does not
-- hold the future itself
abbrev pub DeliveriesUpdate : Type 0
DeliveriesUpdate = (c d : Configuration) (f : FutureShape) (to : Name) (p : ParcelShape) (b : Activity)
    → HasValue c f p → 0 < length p.cells → HoldsNot f p.cells
    → edge_delivered c f to ≡ Some d → IsAt d to b → HoldsNot f b.store
