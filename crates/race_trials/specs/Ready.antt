-- When a seat may take turns.
use Rattle.std.specs.Prelude.{◌≡◌, ℕ, List, All}
use Rattle.crossbeam_utils.specs.declared.cache_padded.CachePadded.{CachePadded}
use Rattle.crossbeam_utils.specs.Padded.{padded_value}
use Rattle.turn_hub.specs.declared.hub.Hub.{Hub}
use Rattle.turn_hub.specs.declared.seat.Seat.{Seat}
use Rattle.turn_hub.specs.Seats.{IsFree, IsOf}

module _ {H : Type 0} where
  -- a free seat of this hub, with so many parts
  abbrev pub IsReady : Hub H → ℕ → Seat H → Type 0
  IsReady hub parts seat = IsOf hub seat × (seat.parts ≡ parts) × IsFree seat

  -- free seats of this hub, each with one part
  abbrev pub AllReady : Hub H → List (CachePadded (Seat H)) → Type 0
  AllReady hub seats = All (λ p. IsReady hub 1 (padded_value p)) seats
