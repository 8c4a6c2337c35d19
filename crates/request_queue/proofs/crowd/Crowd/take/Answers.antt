use Rattle.std.proofs.Common.{◌≡◌, ◌∙◌, ℕ, List, IsSome, Some, false, cond, sym, ap, subst}
use Rattle.std.specs.BTreeMap.{is_at}
use Rattle.std.specs.Ordering.{nat_cmp}
use Rattle.asp_model.specs.declared.word.Label.{Label}
use Rattle.request_queue.specs.declared.request.Request.{Request}
use Rattle.request_queue.specs.Notes.{is_noted, is_that}
use Rattle.request_queue.specs.Pending.{QueueView, but, request_at}
use Rattle.request_queue.proofs.QueueLemmas.{AreBelow, Ascends, below_less, found_less, notes_less, ordered_less}
use Rattle.request_queue.proofs.crowd.Crowd.take.Goals as goal

pub take-request-requires : goal.take-request-requires
take-request-requires c = record { pending = subst (λ (q : QueueView). IsSome (request_at c.args.number q.pending)) (sym c.self.view_is) c.requires.pending }

pub invariant_of-self : goal.invariant_of-self
invariant_of-self c =
    let n = c.args.number in
    let es : List (ℕ × Request) = c.self.inside.requests.pending in
    let new = c.take-request.new.self in
    let r = c.take-request.result.value in
    let gone : new.pending ≡ but n es = c.take-request.ensures.others in
    record {
      ordered = subst Ascends (sym gone) (ordered_less (is_at (nat_cmp n)) es c.self.invariant.ordered);
      below = subst (λ m. AreBelow m new.pending) (sym c.take-request.ensures.arrived) (subst (AreBelow c.self.inside.requests.arrived) (sym gone) (below_less c.self.inside.requests.arrived (is_at (nat_cmp n)) es c.self.invariant.below));
      noted = notes_less c.self.inside.notes c.forget.new.self n r es new.pending c.take-request.ensures.taken c.self.invariant.noted
          (subst (λ (m : Label). (l : Label) (k : ℕ) → is_noted c.forget.new.self l k ≡ cond (is_that m n l k) false (is_noted c.self.inside.notes l k))
          (c.as_label.ensures.label ∙ ap (λ (x : Request). x.label) c.deref.ensures) c.forget.ensures.forgotten)
          (λ k. ap (request_at k) gone ∙ found_less n es c.self.invariant.ordered k);
    }

pub returns : goal.returns
returns c =
    let n = c.args.number in
    record {
      taken = ap (λ (q : QueueView). request_at n q.pending) (sym c.self.view_is) ∙ c.take-request.ensures.taken ∙ ap Some (sym c.into_inner.ensures);
      others = c.take-request.ensures.others ∙ ap (λ (q : QueueView). but n q.pending) c.self.view_is;
      arrived = c.take-request.ensures.arrived ∙ ap (λ (q : QueueView). q.arrived) c.self.view_is;
    }
