use Rattle.std.proofs.Common.{◌∙◌, ℕ, List, sym, ap, subst}
use Rattle.request_queue.specs.declared.request.Request.{Request}
use Rattle.request_queue.specs.Kept.{waits}
use Rattle.request_queue.proofs.QueueLemmas.{AreBelow, Ascends, ascends_none}
use Rattle.request_queue.proofs.crowd.Crowd.new.Goals as goal

pub invariant_of-result : goal.invariant_of-result
invariant_of-result c =
    let none = sym c.new.ensures.pending in
    record {
      ordered = subst Ascends none ascends_none;
      below = subst (AreBelow c.new.result.arrived) none tt;
      noted = λ l k. c.new-2.ensures.none l k ∙ ap (λ (es : List (ℕ × Request)). waits es l k) none;
    }
