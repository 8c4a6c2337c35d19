use Rattle.std.proofs.Common.{◌≡◌, ◌∙◌, ◌++◌, ◌∷◌, [], map, refl, sym, ap, subst, arith}
use Rattle.std.proofs.lemmas.List.{append-nil, append_assoc}
use Rattle.law_steps.specs.Linked.{Each}
use Rattle.checkpoint_reading.specs.Cells.{request_shape}
use Rattle.checkpoint_makes.specs.Parcels.{IsProperRequest}
use Rattle.checkpoint_makes.proofs.MadeLemmas.{each_at, map_more, no_items, no_request, one_more_request, requests_as}
use Rattle.checkpoint_makes.proofs.parcels.make_requests.Goals as goal

pub loop-request-init : goal.loop-request-init
loop-request-init c = record { made = no_request _ _ c.in_ok-made.ensures.items; whole = sym c.into_iter-request-iterator.ensures.into_iter_gives.0 }

pub make_request-requires : goal.make_request-requires
make_request-requires c =
    let before = c.loop-request.yielded in
    let whole : c.args.requests.items ≡ before ++ (c.in-Some.request ∷ c.next.new.self.rest.items) = c.loop-request.invariant.whole ∙ ap (λ items. before ++ items) c.in-Some.ensures.steps.0 in
    record { table = c.loop-request.invariant.made.grows.table c.requires.table; proper = each_at IsProperRequest request_shape before c.in-Some.request c.next.new.self.rest.items (subst (λ rs. Each IsProperRequest (map request_shape rs)) whole c.requires.proper) }

pub loop-request-preserved : goal.loop-request-preserved
loop-request-preserved c =
    let before = c.loop-request.yielded in
    record {
      made = requests_as _ _ _ _ _ _ c.in_ok-push.ensures.items (map_more request_shape before c.in-Some.request) (one_more_request _ _ _ _ _ _ _ c.loop-request.invariant.made c.in_ok-make_request.ensures.made);
      whole = c.loop-request.invariant.whole ∙ ap (λ items. before ++ items) c.in-Some.ensures.steps.0 ∙ sym (append_assoc before (c.in-Some.request ∷ []) c.next.new.self.rest.items);
    }

pub returns : goal.returns
returns c =
    let none : c.loop-request.request-iterator.rest.items ≡ [] = no_items c.loop-request.request-iterator.rest.items (omega (arith, c.loop-request.request-iterator.rest.ok, c.in-None.ensures.steps.0)) in
    let whole : c.args.requests.items ≡ c.loop-request.yielded = c.loop-request.invariant.whole ∙ ap (λ items. c.loop-request.yielded ++ items) none ∙ append-nil c.loop-request.yielded in
    record { made = requests_as _ _ _ _ _ _ refl (ap (map request_shape) whole) c.loop-request.invariant.made }
