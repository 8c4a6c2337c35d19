-- Who was passed which future, who has received which value, and what is owed.
use Rattle.std.specs.Prelude.{◌&&◌, ◌||◌, not, Bool, true, false, List, [], ◌∷◌, ◌++◌, Option, Some, None, map}
use Rattle.std.specs.List.{flat_map, list_any}
use Rattle.asp_model.specs.Names.{Name, FutureShape, same_name, same_future}
use Rattle.asp_model.specs.Configuration.{Configuration}
use Rattle.asp_model.specs.History.{ChoiceShape, Forward, FromHome, Leave}

-- a future was passed from one activity to another
pub record EdgeShape : Type 0 where
  pub future : FutureShape
  pub from : Name
  pub to : Name

-- what a step or a delivery does to futures
pub data Event : Type 0 where
  -- a request begins a future; its home is the activity that is asked
  Begins : (future : FutureShape) (home : Name) → Event
  Passes : (edge : EdgeShape) → Event
  Fills : (future : FutureShape) → Event
  -- an activity receives the value of a future, which holds these futures
  Receives : (future : FutureShape) (by : Name) (held : List FutureShape) → Event
  -- the value was delivered along this edge
  Delivers : (edge : EdgeShape) → Event

-- where futures went: their homes, the edges along which they were passed, and what became of their values
pub record HoldersShape : Type 0 where
  -- each future with its home
  pub homes : List (FutureShape × Name)
  -- in the order of entering, each once
  pub edges : List EdgeShape
  pub filled : List FutureShape
  -- who has received which value, each once
  pub received : List (FutureShape × Name)
  -- the edges that were delivered, in order
  pub delivered : List EdgeShape

-- each future with who received its request
abbrev pub homes_in : Configuration → List (FutureShape × Name)
homes_in c = flat_map (λ x. map (λ r. (r.future, x.0)) x.1) c.received

-- where a run begins there are homes and values; no future has gone anywhere
abbrev pub first_holders : Configuration → HoldersShape
first_holders c = record {
  homes = homes_in c;
  edges = [];
  filled = map (λ v. v.0) c.futures;
  received = [];
  delivered = [];
}

-- where it begins with its program, there is nothing
abbrev pub no_holders : HoldersShape
no_holders = record { homes = []; edges = []; filled = []; received = []; delivered = [] }

-- they have one future and lead from one activity to one activity
abbrev pub same_edge : EdgeShape → EdgeShape → Bool
same_edge x y = same_future x.future y.future && (same_name x.from y.from && same_name x.to y.to)

-- the edge is in the list
abbrev pub has_edge : EdgeShape → List EdgeShape → Bool
has_edge x = list_any (same_edge x)

-- the future is in the list of those that are filled
abbrev pub has_filled : FutureShape → List FutureShape → Bool
has_filled f = list_any (same_future f)

-- the activity is in the list of those that received the value of this future
abbrev pub has_received : FutureShape → Name → List (FutureShape × Name) → Bool
has_received f n = list_any (λ x. same_future f x.0 && same_name n x.1)

-- the activity that is asked by the request of a future, if that was sent
abbrev pub home_of : FutureShape → List (FutureShape × Name) → Option Name
home_of f [] = None
home_of f (x ∷ xs) = elim (same_future f x.0) [ true ↦ Some x.1 | false ↦ home_of f xs ]

-- Entering

-- kept already, or between an activity and itself
abbrev pub is_no_edge : EdgeShape → List EdgeShape → Bool
is_no_edge x edges = same_name x.from x.to || has_edge x edges

-- an edge is entered at the end, unless it is kept already or leads from an activity to itself
abbrev pub with_edge : EdgeShape → List EdgeShape → List EdgeShape
with_edge x edges = elim (is_no_edge x edges) [ true ↦ edges | false ↦ edges ++ x ∷ [] ]

-- the edges of these futures from one activity to another
abbrev pub with_edges : List FutureShape → (from to : Name) → List EdgeShape → List EdgeShape
with_edges [] from to edges = edges
with_edges (f ∷ fs) from to edges = with_edges fs from to (with_edge (record { future = f; from = from; to = to }) edges)

-- from the home of the value in which they stand
abbrev pub with_held : List FutureShape → Option Name → Name → List EdgeShape → List EdgeShape
with_held fs None to edges = edges
with_held fs (Some home) to edges = with_edges fs home to edges

-- the activity counts as one that has received the value; entered once
abbrev pub with_received : FutureShape → Name → List (FutureShape × Name) → List (FutureShape × Name)
with_received f n xs = elim (has_received f n xs) [ true ↦ xs | false ↦ xs ++ (f, n) ∷ [] ]

-- what counts as delivered: an edge that is kept, once
abbrev pub with_delivered : EdgeShape → List EdgeShape → List EdgeShape → List EdgeShape
with_delivered x edges xs = elim (has_edge x edges && not (has_edge x xs)) [ true ↦ xs ++ x ∷ [] | false ↦ xs ]

-- what one event leaves
abbrev pub after_event : Event → HoldersShape → HoldersShape
after_event (Begins f home) h = record h { homes = h.homes ++ (f, home) ∷ [] }
after_event (Passes x) h = record h { edges = with_edge x h.edges }
after_event (Fills f) h = record h { filled = h.filled ++ f ∷ [] }
after_event (Receives f n held) h = record h {
  edges = with_held held (home_of f h.homes) n h.edges;
  received = with_received f n h.received;
}
after_event (Delivers x) h = record h { delivered = with_delivered x h.edges h.delivered }

-- what events leave, one after another
abbrev pub after_events : List Event → HoldersShape → HoldersShape
after_events [] h = h
after_events (e ∷ es) h = after_events es (after_event e h)

-- Owed edges

-- this activity is the home
abbrev pub is_home : Name → Option Name → Bool
is_home n None = false
is_home n (Some m) = same_name n m

-- the first activity of an edge can hand the value on: it is the home, or has received it
abbrev pub has_value : HoldersShape → EdgeShape → Bool
has_value h x = is_home x.from (home_of x.future h.homes) || has_received x.future x.from h.received

-- the answer sends the value along the edge now: under `FromHome` always, under `Forward` once the edge's first
-- activity has it, under `Leave` never
abbrev pub is_chosen : ChoiceShape → HoldersShape → EdgeShape → Bool
is_chosen FromHome h x = true
is_chosen Forward h x = has_value h x
is_chosen Leave h x = false

-- with its answer an edge is owed: not delivered, its future filled, and the answer sends it now
abbrev pub is_owed : HoldersShape → ChoiceShape → EdgeShape → Bool
is_owed h answer x = not (has_edge x h.delivered) && (has_filled x.future h.filled && is_chosen answer h x)

-- an edge with its answer is owed, where both are there
abbrev pub owed_at : HoldersShape → Option EdgeShape → Option ChoiceShape → Bool
owed_at h (Some x) (Some answer) = is_owed h answer x
owed_at h x answer = false
