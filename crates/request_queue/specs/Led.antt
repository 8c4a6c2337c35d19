-- A few requests before others.
use Rattle.std.specs.Prelude.{ℕ, List, [], ◌++◌, Option, Some, None}
use Rattle.std.specs.declared.alloc.Global.{Global}
use Rattle.std.specs.declared.boxed.Box.{Box}
use Rattle.request_queue.specs.declared.request.Request.{Request}
use Rattle.request_queue.specs.declared.queue.Queue.TheInside.{Inside}
use Rattle.request_queue.specs.Pending.{QueueView}

-- a crowd, where there is one
abbrev pub Behind : Type 0
Behind = Option (Box QueueView Global)

-- the requests in it
abbrev pub behind : Behind → List (ℕ × Request)
behind None = []
behind (Some b) = b.value.pending

-- how many have arrived, where these had before there was a crowd
abbrev pub arrived_of : ℕ → Behind → ℕ
arrived_of n None = n
arrived_of n (Some b) = b.value.arrived

-- the few, then the others
abbrev pub led_view : Inside → QueueView
led_view q = record { pending = q.few ++ behind q.others; arrived = arrived_of q.arrived q.others }
