use Rattle.std.proofs.Common.{◌≡◌, ◌∙◌, ◌++◌, ◌∷◌, [], map, refl, sym, ap, subst, arith}
use Rattle.std.proofs.lemmas.List.{append-nil, append_assoc}
use Rattle.asp_model.specs.Shapes.{tree_of}
use Rattle.law_steps.specs.Linked.{Each}
use Rattle.checkpoint_parts.specs.declared.parts.ServiceText.{ServiceText}
use Rattle.checkpoint_parts.specs.Shapes.{service_shape}
use Rattle.checkpoint_makes.specs.Terms.{WaitsAs}
use Rattle.checkpoint_makes.proofs.HeldLemmas.{no_service, one_more_service, services_as}
use Rattle.checkpoint_makes.proofs.MadeLemmas.{each_here, map_more, no_items}
use Rattle.checkpoint_makes.proofs.terms.make_services.Goals as goal

pub loop-service-init : goal.loop-service-init
loop-service-init c = record { made = no_service _ _ c.in_ok-made.ensures.items; whole = sym c.into_iter-service-iterator.ensures.into_iter_gives.0 }

pub make_service-requires : goal.make_service-requires
make_service-requires c =
    let before = c.loop-service.yielded in
    let whole : c.args.services.items ≡ before ++ (c.in-Some.service ∷ c.next.new.self.rest.items) = c.loop-service.invariant.whole ∙ ap (λ items. before ++ items) c.in-Some.ensures.steps.0 in
    record { waits = each_here (λ (s : ServiceText). WaitsAs (map tree_of s.terms.items)) before c.in-Some.service c.next.new.self.rest.items (subst (Each (λ (s : ServiceText). WaitsAs (map tree_of s.terms.items))) whole c.requires.wait) }

pub loop-service-preserved : goal.loop-service-preserved
loop-service-preserved c =
    let before = c.loop-service.yielded in
    record {
      made = services_as _ _ _ _ _ _ c.in_ok-push.ensures.items (map_more service_shape before c.in-Some.service) (one_more_service _ _ _ _ _ _ _ c.loop-service.invariant.made c.in_ok-make_service.ensures.made);
      whole = c.loop-service.invariant.whole ∙ ap (λ items. before ++ items) c.in-Some.ensures.steps.0 ∙ sym (append_assoc before (c.in-Some.service ∷ []) c.next.new.self.rest.items);
    }

pub returns : goal.returns
returns c =
    let none : c.loop-service.service-iterator.rest.items ≡ [] = no_items c.loop-service.service-iterator.rest.items (omega (arith, c.loop-service.service-iterator.rest.ok, c.in-None.ensures.steps.0)) in
    let whole : c.args.services.items ≡ c.loop-service.yielded = c.loop-service.invariant.whole ∙ ap (λ items. c.loop-service.yielded ++ items) none ∙ append-nil c.loop-service.yielded in
    record { made = services_as _ _ _ _ _ _ refl (ap (map service_shape) whole) c.loop-service.invariant.made }
