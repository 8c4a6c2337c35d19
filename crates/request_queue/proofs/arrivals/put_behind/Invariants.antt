use Rattle.std.proofs.Common.{◌≡◌, ◌++◌, drop}
use Rattle.request_queue.specs.Places.{placed}
use Rattle.request_queue.specs.Requests.{lent_shapes, shapes_of}
use Rattle.request_queue.proofs.arrivals.put_behind.Given as goal

abbrev pub invariant-loop-at : goal.invariant-loop-at
invariant-loop-at l = lent_shapes l.pending.items ++ shapes_of (placed 0 (drop l.at l.places.items)) ≡ lent_shapes l.fn.first.items ++ shapes_of (placed 0 l.places.items)
