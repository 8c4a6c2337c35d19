-- Activities by their names, gathered from their seats.
use Rattle.std.specs.Prelude.{◌≡◌, ◌≢◌, ◌<◌, ◌++◌, ◌∷◌, [], ℕ, List, Option, Some, None, slice_get}
use Rattle.std.specs.Global.{Box}
use Rattle.std.specs.Map.{update_all}
use Rattle.std.specs.Option.{option_map}
use Rattle.asp_model.specs.Names.{Name, same_name}
use Rattle.request_queue.specs.declared.request.Request.{Request}
use Rattle.core_seats.specs.Seats.{In, Out, SeatShape}
use Rattle.step_activity.specs.declared.actor.Actor.{Actor}

-- no two numbers have one name
abbrev pub AreApart : List Name → Type 0
AreApart ns = (i k : ℕ) (n : Name) → slice_get ns i ≡ Some n → slice_get ns k ≡ Some n → i ≡ k

-- the last that came with a name
abbrev pub held_in : List (Name × Box Actor) → Name → Option (Box Actor)
held_in = update_all same_name (λ _. None)

-- who it is, out of its box
abbrev pub as_actor : Name × Box Actor → Name × Actor
as_actor e = (e.0, e.1.value)

-- those that are in, with their names, in the order of their numbers
abbrev pub who_is_in : List Name → List (SeatShape Actor Request) → List (Name × Actor)
who_is_in [] seats = []
who_is_in (n ∷ ns) [] = []
who_is_in (n ∷ ns) (In a ∷ seats) = (n, a) ∷ who_is_in ns seats
who_is_in (n ∷ ns) (Out came ∷ seats) = who_is_in ns seats

-- whoever was in comes last, with this name
abbrev pub IsBrought : Name → Option (SeatShape Actor Request) → (old new : List (Name × Box Actor)) → Type 0
IsBrought n (Some (In a)) old new = (b : Box Actor) × (b.value ≡ a) × (new ≡ old ++ (n, b) ∷ [])
IsBrought n (Some (Out came)) old new = new ≡ old
IsBrought n None old new = new ≡ old

abbrev pub OthersStay : ℕ → (old new : List (SeatShape Actor Request)) → Type 0
OthersStay k old new = (j : ℕ) → j ≢ k → slice_get new j ≡ slice_get old j

-- of those with lesser numbers, who is in stands at its name, and nobody else does
pub record AreBefore (ns : List Name) (seats : List (SeatShape Actor Request)) (i : ℕ) (held : Name → Option (Box Actor)) : Type 0 where
  pub here : (k : ℕ) (n : Name) (a : Actor) → k < i → slice_get ns k ≡ Some n → slice_get seats k ≡ Some (In a)
      → option_map (λ b. b.value) (held n) ≡ Some a
  pub none : (n : Name) → ((k : ℕ) → k < i → slice_get ns k ≢ Some n) → held n ≡ None
