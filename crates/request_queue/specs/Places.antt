-- Requests in places, each in that of its number.
use Rattle.std.specs.Prelude.{◌≡◌, ℕ, suc, ◌+◌, List, [], ◌∷◌, Option, Some, None, length}
use Rattle.std.specs.declared.alloc.Global.{Global}
use Rattle.std.specs.declared.boxed.Box.{Box}
use Rattle.request_queue.specs.declared.request.Request.{Request}
use Rattle.request_queue.specs.declared.arrivals.Arrivals.TheInside.{Inside}
use Rattle.request_queue.specs.Pending.{QueueView}

abbrev pub Places : Type 0
Places = List (Option (Box Request Global))

-- the requests in places, of which the first has this number
abbrev pub placed : ℕ → Places → List (ℕ × Request)
placed n [] = []
placed n (None ∷ ps) = placed (suc n) ps
placed n (Some b ∷ ps) = (n, b.value) ∷ placed (suc n) ps

abbrev pub arrivals_view : Inside → QueueView
arrivals_view q = record { pending = placed q.base q.places.items; arrived = q.arrived }

pub record IsInPlace (q : Inside) : Type 0 where
  -- the last place has the last number
  pub follow : q.base + length q.places.items ≡ q.arrived
  pub filled : q.filled ≡ length (placed q.base q.places.items)
