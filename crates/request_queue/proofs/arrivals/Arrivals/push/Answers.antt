use Rattle.std.proofs.Common.{◌≤◌, ◌+◌, ◌∙◌, ◌++◌, ◌∷◌, [], length, ap, sym, arith}
use Rattle.request_queue.specs.Pending.{QueueView}
use Rattle.request_queue.specs.Places.{Places, placed}
use Rattle.request_queue.proofs.PlaceLemmas.{placed_few, pushed_places}
use Rattle.request_queue.proofs.arrivals.Arrivals.push.Goals as goal

pub overflow_add-self-in-Ok : goal.overflow_add-self-in-Ok
overflow_add-self-in-Ok c =
    let q = c.self.inside in
    let few : length (placed q.base q.places.items) ≤ length q.places.items = placed_few q.base q.places.items in
    let filled = c.self.invariant.filled in
    let long = q.places.ok.0 in
    let small = q.places.small in
    omega (arith, few, filled, long, small.0, small.1)

pub invariant_of-self : goal.invariant_of-self
invariant_of-self c =
    let q = c.self.inside in
    let kept = pushed_places q.base q.arrived q.filled q.places.items c.args.request c.self.invariant.follow c.self.invariant.filled in
    record {
      follow = ap (λ (ps : Places). q.base + length ps) c.in-Ok.ensures.items ∙ kept.0;
      filled = kept.1 ∙ ap (λ (ps : Places). length (placed q.base ps)) (sym c.in-Ok.ensures.items);
    }

pub returns-in-Ok-clause-pending : goal.returns-in-Ok-clause-pending
returns-in-Ok-clause-pending c =
    let q = c.self.inside in
    let kept = pushed_places q.base q.arrived q.filled q.places.items c.args.request c.self.invariant.follow c.self.invariant.filled in
    ap (placed q.base) c.in-Ok.ensures.items ∙ kept.2 ∙ ap (λ (v : QueueView). v.pending ++ (v.arrived, c.args.request.value) ∷ []) c.self.view_is
