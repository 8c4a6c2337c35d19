-- Activities by numbers, and what futures and edges by numbers stand for.
use Rattle.std.specs.Prelude.{◌≡◌, ℕ, ◌<◌, ◌≤◌, ◌^◌, List, [], length, slice_index_or, Option, Some, None}
use Rattle.asp_model.specs.Names.{Name, FutureShape}
use Rattle.asp_model.specs.History.{DeliveryShape}
use Rattle.asp_model.specs.History as history
use Rattle.def_journals.specs.Edges.{EdgeShape}
use Rattle.future_update.specs.declared.names.Names.{Names}
use Rattle.future_update.specs.declared.numbered.Future.{Future}
use Rattle.future_update.specs.declared.numbered.Edge.{Edge}
use Rattle.future_update.specs.declared.edge.EdgeNames.{EdgeNames}

abbrev pub names_in : Names → List Name
names_in s = s.names.keys

-- the activity of a number
abbrev pub name_of : List Name → ℕ → Name
name_of ns k = slice_index_or ns k []

abbrev pub future_of : List Name → Future → FutureShape
future_of ns f = record { by = name_of ns f.by; index = f.index }

abbrev pub edge_of : List Name → Edge → EdgeShape
edge_of ns e = record { future = future_of ns e.future; from = name_of ns e.from; to = name_of ns e.to }

abbrev pub edge_between : FutureShape → (from to : Name) → EdgeShape
edge_between f from to = record { future = f; from = from; to = to }

-- its names, as they are lent
abbrev pub edge_named : EdgeNames → EdgeShape
edge_named e = record { future = record { by = e.by.now; index = e.index }; from = e.from.now; to = e.to.now }

-- the delivery along an edge
abbrev pub delivery_along : EdgeShape → DeliveryShape
delivery_along e = history.Edge e.future e.from e.to

-- the numbers are those of activities that were met

abbrev pub IsKnown : List Name → ℕ → Type 0
IsKnown ns k = k < length ns

abbrev pub IsKnownFuture : List Name → Future → Type 0
IsKnownFuture ns f = IsKnown ns f.by

pub record IsKnownEdge (ns : List Name) (e : Edge) : Type 0 where
  pub future : IsKnownFuture ns e.future
  pub from : IsKnown ns e.from
  pub to : IsKnown ns e.to

-- no activity has two numbers, and the numbers are 32 bits long
pub record AreNames (ns : List Name) : Type 0 where
  pub apart : (i j : ℕ) → i < length ns → j < length ns → name_of ns i ≡ name_of ns j → i ≡ j
  pub few : length ns < 2 ^ 32

-- each number stays that of its activity
pub record Keeps (old new : List Name) : Type 0 where
  pub more : length old ≤ length new
  pub same : (k : ℕ) → k < length old → name_of new k ≡ name_of old k

-- the number of an activity
abbrev pub IsNumberOf : List Name → Name → ℕ → Type 0
IsNumberOf ns n k = IsKnown ns k × (name_of ns k ≡ n)

abbrev pub IsFutureOf : List Name → FutureShape → Future → Type 0
IsFutureOf ns f g = IsKnownFuture ns g × (future_of ns g ≡ f)

abbrev pub IsEdgeOf : List Name → EdgeShape → Edge → Type 0
IsEdgeOf ns x e = IsKnownEdge ns e × (edge_of ns e ≡ x)

-- the activity was not met
abbrev pub IsNew : List Name → Name → Type 0
IsNew ns n = (k : ℕ) → k < length ns → name_of ns k ≡ n → ⊥

abbrev pub IsFound : List Name → Name → Option ℕ → Type 0
IsFound ns n None = IsNew ns n
IsFound ns n (Some k) = IsNumberOf ns n k

-- found by its numbers, or one of its activities was not met
abbrev pub IsFoundFuture : List Name → FutureShape → Option Future → Type 0
IsFoundFuture ns f None = IsNew ns f.by
IsFoundFuture ns f (Some g) = IsFutureOf ns f g

abbrev pub IsFoundEdge : List Name → EdgeShape → Option Edge → Type 0
IsFoundEdge ns x None = (e : Edge) → IsKnownEdge ns e → edge_of ns e ≡ x → ⊥
IsFoundEdge ns x (Some e) = IsEdgeOf ns x e
