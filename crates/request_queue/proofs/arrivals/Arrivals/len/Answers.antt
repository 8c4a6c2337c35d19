use Rattle.std.proofs.Common.{◌≤◌, length, arith}
use Rattle.request_queue.specs.Places.{placed}
use Rattle.request_queue.proofs.PlaceLemmas.{placed_few}
use Rattle.request_queue.proofs.arrivals.Arrivals.len.Goals as goal

pub returns-clause-small : goal.returns-clause-small
returns-clause-small c =
    let q = c.self.inside in
    let few : length (placed q.base q.places.items) ≤ length q.places.items = placed_few q.base q.places.items in
    let filled = c.self.invariant.filled in
    let long = q.places.ok.0 in
    let small = q.places.small in
    omega (arith, few, filled, long, small.0, small.1)
