-- Deliveries as events tell them.
use Rattle.std.specs.Prelude.{◌≡◌, List, [], ◌∷◌}
use Rattle.asp_model.specs.Names.{FutureShape}
use Rattle.asp_model.specs.Parcel.{ParcelShape}
use Rattle.asp_model.specs.History.{Delivered, DeliveryShape, Edge, Need}
use Rattle.def_journals.specs.Edges.{Delivers, Event, HoldersShape, after_events}
use Rattle.def_journals.specs.Journals.{RunShape}
use Rattle.def_journals.specs.Passing.{entry_events}
use Rattle.law_steps.specs.Reached.{HasValue}
use Rattle.core_edges.specs.declared.edges.Edges.{Edges}
use Rattle.core_edges.specs.Strategies.{KeepsOthers}

-- the future whose value is delivered
abbrev pub future_of : DeliveryShape → FutureShape
future_of (Edge f from to) = f
future_of (Need f to place) = f

-- what a delivery is beside what is received
abbrev pub events_along : DeliveryShape → List Event
events_along (Edge f from to) = Delivers (record { future = f; from = from; to = to }) ∷ []
events_along (Need f to place) = []

-- the edge of a delivery, if it is kept, counts as delivered
pub record IsNoted {P : Type 0} (d : DeliveryShape) (old new : Edges P) : Type 0 where
  pub holders : new.holders.holders ≡ after_events (events_along d) old.holders.holders
  pub answers : new.holders.answers ≡ old.holders.answers
  pub policies : new.policies ≡ old.policies
  pub others : KeepsOthers old new

-- after the entry of a delivery, in each run in which its future has this value
abbrev pub IsAfterDelivery : DeliveryShape → ParcelShape → (old new : HoldersShape) → Type 0
IsAfterDelivery d p old new = (s : RunShape) → HasValue s.configuration (future_of d) p
    → new ≡ after_events (entry_events (Delivered d) s) old
