use Rattle.std.proofs.Common.{◌≡◌, ◌∙◌, ◌++◌, ◌∷◌, [], map, refl, sym, ap, arith}
use Rattle.std.proofs.lemmas.List.{append-nil, append_assoc}
use Rattle.std.specs.Arc.{arc_value}
use Rattle.checkpoint_makes.specs.Parcels.{request_by}
use Rattle.checkpoint_makes.proofs.MadeLemmas.{map_more, no_items}
use Rattle.checkpoint_actors.proofs.QueueLemmas.{behind_as, holds_queue, none_behind, one_more_behind}
use Rattle.checkpoint_actors.proofs.queues.make_queue.Goals as goal

pub loop-request-init : goal.loop-request-init
loop-request-init c = record { behind = none_behind _ _ _ c.after-queue.ensures.pending c.after-queue.ensures.arrived; whole = sym c.into_iter-request-iterator.ensures.into_iter_gives.0 }

pub loop-request-preserved : goal.loop-request-preserved
loop-request-preserved c =
    let before = c.loop-request.yielded in
    record {
      behind = behind_as _ _ _ _ _ (map_more (request_by (arc_value c.args.code.now)) before c.in-Some.request) (one_more_behind _ _ _ _ _ _ c.loop-request.invariant.behind c.in_ok-push.ensures.pushed);
      whole = c.loop-request.invariant.whole ∙ ap (λ items. before ++ items) c.in-Some.ensures.steps.0 ∙ sym (append_assoc before (c.in-Some.request ∷ []) c.next.new.self.rest.items);
    }

pub returns : goal.returns
returns c =
    let none : c.loop-request.request-iterator.rest.items ≡ [] = no_items c.loop-request.request-iterator.rest.items (omega (arith, c.loop-request.request-iterator.rest.ok, c.in-None.ensures.steps.0)) in
    let whole : c.args.requests.items ≡ c.loop-request.yielded = c.loop-request.invariant.whole ∙ ap (λ items. c.loop-request.yielded ++ items) none ∙ append-nil c.loop-request.yielded in
    record { holds = holds_queue _ _ _ _ (behind_as _ _ _ _ _ (ap (map (request_by (arc_value c.args.code.now))) whole) c.loop-request.invariant.behind) }
