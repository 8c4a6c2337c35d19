use Rattle.std.proofs.Common.{◌≡◌, ◌∙◌, ◌++◌, List, IfOk, map, sym, ap, subst}
use Rattle.std.proofs.lemmas.List.{append-nil}
use Rattle.asp_model.specs.Configuration.{RequestShape}
use Rattle.request_queue.specs.Led.{behind}
use Rattle.request_queue.specs.Pending.{QueueView, waiting}
use Rattle.request_queue.specs.Requests.{lent_shapes, shapes_of}
use Rattle.request_queue.proofs.ShapeLemmas.{shapes_append, shapes_waiting}
use Rattle.request_queue.proofs.queue.Queue.pending.Goals as goal

pub returns-in-Some : goal.returns-in-Some
returns-in-Some c =
    let q = c.self.inside in
    let all : lent_shapes c.in_ok-few.few.items ++ shapes_of c.deref.result.now.pending ≡ map (λ x. x.1) (waiting c.args.self.now) =
    (λ i. c.in_ok-few.ensures.pending i ++ shapes_of ((c.deref.ensures i).pending))
    ∙ ap (λ o. shapes_of q.few ++ shapes_of (behind o)) (sym c.in-Some.is)
    ∙ sym (shapes_append q.few (behind q.others))
    ∙ ap (λ (v : QueueView). shapes_of v.pending) c.self.view_is
    ∙ sym (shapes_waiting c.args.self.now.pending) in
    record { pending = subst (λ (rs : List RequestShape). IfOk c.behind.result (λ v. lent_shapes v.items ≡ rs)) all c.behind.ensures.pending }

pub returns-in-None : goal.returns-in-None
returns-in-None c =
    let q = c.self.inside in
    record {
      pending = c.in_ok-few.ensures.pending
          ∙ sym (append-nil (shapes_of q.few))
          ∙ ap (λ o. shapes_of q.few ++ shapes_of (behind o)) (sym c.in-None.is)
          ∙ sym (shapes_append q.few (behind q.others))
          ∙ ap (λ (v : QueueView). shapes_of v.pending) c.self.view_is
          ∙ sym (shapes_waiting c.args.self.now.pending);
    }
