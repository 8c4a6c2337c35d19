use Rattle.std.proofs.Common.{◌≡◌, ◌<◌, ◌+◌, ◌-◌, ◌∙◌, IsSome, None, get_or, length, set, sym, ap, subst}
use Rattle.std.proofs.lemmas.List.{get_or_default, length-set}
use Rattle.request_queue.specs.Pending.{QueueView, but, request_at}
use Rattle.request_queue.specs.Places.{placed}
use Rattle.request_queue.proofs.PlaceLemmas.{emptied_places, has_place_from, some_within, within}
use Rattle.request_queue.proofs.arrivals.Arrivals.empty_place.Goals as goal

pub overflow_sub-at : goal.overflow_sub-at
overflow_sub-at c =
    let q = c.self.inside in
    let there = subst (λ (v : QueueView). IsSome (request_at c.args.number v.pending)) (sym c.self.view_is) c.requires.pending in
    (has_place_from c.args.number q.base q.places.items there).0

pub index_mut-requires : goal.index_mut-requires
index_mut-requires c =
    let q = c.self.inside in
    let there = subst (λ (v : QueueView). IsSome (request_at c.args.number v.pending)) (sym c.self.view_is) c.requires.pending in
    let kept = emptied_places q.base c.args.number q.filled q.places.items c.self.invariant.filled there in
    subst (λ m. c.args.number - q.base < m) (sym q.places.ok.0) kept.0

pub unwrap-request-requires : goal.unwrap-request-requires
unwrap-request-requires c =
    let q = c.self.inside in
    let i = c.args.number - q.base in
    let there = subst (λ (v : QueueView). IsSome (request_at c.args.number v.pending)) (sym c.self.view_is) c.requires.pending in
    let kept = emptied_places q.base c.args.number q.filled q.places.items c.self.invariant.filled there in
    let held : c.take.result ≡ get_or q.places.items i None = c.take.ensures.value ∙ c.index_mut.ensures.value ∙ get_or_default q.places.items i c.index_mut.result.now None kept.0 in
    subst IsSome (sym held) (some_within (get_or q.places.items i None) (subst IsSome kept.1 there))

pub invariant_of-self : goal.invariant_of-self
invariant_of-self c =
    let q = c.self.inside in
    let i = c.args.number - q.base in
    let there = subst (λ (v : QueueView). IsSome (request_at c.args.number v.pending)) (sym c.self.view_is) c.requires.pending in
    let kept = emptied_places q.base c.args.number q.filled q.places.items c.self.invariant.filled there in
    record {
      follow = ap (λ m. q.base + m) (length-set q.places.items i c.take.new.self) ∙ c.self.invariant.follow;
      filled = kept.4 ∙ ap (λ o. length (placed q.base (set q.places.items i o))) (sym c.take.ensures.after);
    }

pub returns-clause-taken : goal.returns-clause-taken
returns-clause-taken c =
    let q = c.self.inside in
    let i = c.args.number - q.base in
    let there = subst (λ (v : QueueView). IsSome (request_at c.args.number v.pending)) (sym c.self.view_is) c.requires.pending in
    let kept = emptied_places q.base c.args.number q.filled q.places.items c.self.invariant.filled there in
    let held : c.take.result ≡ get_or q.places.items i None = c.take.ensures.value ∙ c.index_mut.ensures.value ∙ get_or_default q.places.items i c.index_mut.result.now None kept.0 in
    ap (λ (v : QueueView). request_at c.args.number v.pending) (sym c.self.view_is) ∙ kept.1 ∙ ap within (sym held ∙ c.unwrap-request.ensures)

pub returns-clause-others : goal.returns-clause-others
returns-clause-others c =
    let q = c.self.inside in
    let i = c.args.number - q.base in
    let there = subst (λ (v : QueueView). IsSome (request_at c.args.number v.pending)) (sym c.self.view_is) c.requires.pending in
    let kept = emptied_places q.base c.args.number q.filled q.places.items c.self.invariant.filled there in
    ap (λ o. placed q.base (set q.places.items i o)) c.take.ensures.after ∙ sym kept.2 ∙ ap (λ (v : QueueView). but c.args.number v.pending) c.self.view_is
