-- What contracts see of the holders of futures.
use Rattle.std.specs.Prelude.{◌≡◌, ℕ, map, filter, Bool, true, false, List, [], ◌∷◌, ◌++◌, ◌&&◌, not, Option, Some, None, T, position, slice_get}
use Rattle.std.specs.List.{AllByRecursion, IsDistinct, list_any}
use Rattle.std.specs.FinMap.{find, is_sorted}
use Rattle.asp_model.specs.declared.name.FutureName.{FutureName}
use Rattle.asp_model.specs.Names.{Name, FutureShape, future_cmp, same_name}
use Rattle.asp_model.specs.History.{ChoiceShape, DeliveryShape, Edge, Need}
use Rattle.asp_model.specs.Shapes.{future_shape}
use Rattle.def_journals.specs.Edges.{EdgeShape, HoldersShape, Delivers, after_event, has_edge, home_of, is_no_edge, owed_at, same_edge}

-- the definitions' holders, with the answer for each edge, and the activities that were met, each with whether it is out
pub record HoldersView : Type 0 where
  pub holders : HoldersShape
  pub answers : List ChoiceShape
  pub activities : List (Name × Bool)

-- the edge of a place
abbrev pub edge_in : HoldersView → ℕ → Option EdgeShape
edge_in v p = slice_get v.holders.edges p

-- the edge of a place is owed
abbrev pub owed_in : HoldersView → ℕ → Bool
owed_in v p = owed_at v.holders (edge_in v p) (slice_get v.answers p)

-- pairwise different, and none with equal ends
abbrev pub AreEdges : List EdgeShape → Type 0
AreEdges xs = IsDistinct same_edge xs × AllByRecursion (λ x. same_name x.from x.to ≡ false) xs

-- an edge that is entered has this answer
abbrev pub answered : EdgeShape → List EdgeShape → ChoiceShape → List ChoiceShape → List ChoiceShape
answered x edges answer answers = elim (is_no_edge x edges) [ true ↦ answers | false ↦ answers ++ answer ∷ [] ]

-- the place of the edge of a delivery
abbrev pub place_in : DeliveryShape → List EdgeShape → Option ℕ
place_in (Edge f from to) edges = position (same_edge (record { future = f; from = from; to = to })) edges
place_in (Need f to place) edges = None

-- the edge counts as delivered
abbrev pub is_delivered : HoldersShape → Option EdgeShape → Bool
is_delivered h None = false
is_delivered h (Some x) = has_edge x h.delivered

abbrev pub with_delivery : HoldersShape → Option EdgeShape → HoldersShape
with_delivery h None = h
with_delivery h (Some x) = after_event (Delivers x) h

-- the edges along which the value was not delivered
abbrev pub undelivered : HoldersShape → List EdgeShape
undelivered h = filter (λ x. not (has_edge x h.delivered)) h.edges

-- a future with its home
abbrev pub home_shape : FutureName × Name → FutureShape × Name
home_shape e = (future_shape e.0, e.1)

-- the futures of these homes, ascending, each with its home
pub record AreHomes (homes entries : List (FutureShape × Name)) : Type 0 where
  pub found : (f : FutureShape) → find future_cmp f entries ≡ home_of f homes
  pub ascending : T (is_sorted future_cmp entries)

-- Activities

abbrev pub is_met : Name → List (Name × Bool) → Bool
is_met n = list_any (λ x. same_name n x.0)

abbrev pub is_out : Name → List (Name × Bool) → Bool
is_out n = list_any (λ x. same_name n x.0 && x.1)

abbrev pub is_named : Name → Option (Name × Bool) → Bool
is_named n None = false
is_named n (Some x) = same_name n x.0

-- an activity has this number
abbrev pub is_number : Name → ℕ → List (Name × Bool) → Bool
is_number n number activities = is_named n (slice_get activities number)

-- one of them is out so, and the others stay
pub record IsTurned (number : ℕ) (out : Bool) (old new : List (Name × Bool)) : Type 0 where
  pub names : map (λ x. x.0) new ≡ map (λ x. x.0) old
  pub told : (n : Name) → is_out n new ≡ elim (is_number n number old) [ true ↦ out | false ↦ is_out n old ]

-- the edge of a place is owed to an activity that is in
abbrev pub is_receiver_out : HoldersView → Option EdgeShape → Bool
is_receiver_out v None = false
is_receiver_out v (Some x) = is_out x.to v.activities

abbrev pub owed_to_one_in : HoldersView → ℕ → Bool
owed_to_one_in v p = owed_in v p && not (is_receiver_out v (edge_in v p))
