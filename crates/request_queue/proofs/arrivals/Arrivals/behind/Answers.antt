use Rattle.std.proofs.Common.{◌≡◌, ◌∙◌, ◌++◌, IfOk, List, ap, subst}
use Rattle.asp_model.specs.Configuration.{RequestShape}
use Rattle.request_queue.specs.Pending.{QueueView}
use Rattle.request_queue.specs.Places.{placed}
use Rattle.request_queue.specs.Requests.{lent_shapes, shapes_of}
use Rattle.request_queue.proofs.ShapeLemmas.{shapes_placed}
use Rattle.request_queue.proofs.arrivals.Arrivals.behind.Goals as goal

pub returns : goal.returns
returns c =
    let q = c.self.inside in
    let same : shapes_of (placed 0 q.places.items) ≡ shapes_of c.args.self.now.pending = shapes_placed 0 q.base q.places.items ∙ ap (λ (v : QueueView). shapes_of v.pending) c.self.view_is in
    record { pending = subst (λ (rs : List RequestShape). IfOk c.put_behind.result (λ v. lent_shapes v.items ≡ lent_shapes c.args.first.items ++ rs)) same c.put_behind.ensures.pending }
