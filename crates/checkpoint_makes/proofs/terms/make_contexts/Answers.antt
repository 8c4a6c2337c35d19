use Rattle.std.proofs.Common.{◌≡◌, ◌∙◌, ◌++◌, ◌∷◌, [], map, refl, sym, ap, subst, arith}
use Rattle.std.proofs.lemmas.List.{append-nil, append_assoc}
use Rattle.asp_model.specs.Shapes.{tree_of}
use Rattle.checkpoint_makes.specs.Terms.{AreContextTerms}
use Rattle.checkpoint_makes.proofs.HeldLemmas.{held_as, held_more, none_held, some_at}
use Rattle.checkpoint_makes.proofs.MadeLemmas.{map_more, map_seam, no_items}
use Rattle.checkpoint_makes.proofs.terms.make_contexts.Goals as goal

pub loop-term-init : goal.loop-term-init
loop-term-init c = record { held = none_held _ _ c.in_ok-helds.ensures.items; whole = sym c.into_iter-term-iterator.ensures.into_iter_gives.0 }

pub hold_context-requires : goal.hold_context-requires
hold_context-requires c =
    let before = c.loop-term.yielded in
    let whole : c.args.terms.items ≡ before ++ (c.in-Some.term ∷ c.next.new.self.rest.items) = c.loop-term.invariant.whole ∙ ap (λ items. before ++ items) c.in-Some.ensures.steps.0 in
    record { context = some_at c.requires.contexts.0 (map tree_of before) (tree_of c.in-Some.term) (map tree_of c.next.new.self.rest.items) (subst (AreContextTerms c.requires.contexts.0) (ap (map tree_of) whole ∙ map_seam tree_of before (c.in-Some.term ∷ c.next.new.self.rest.items)) c.requires.contexts.1) }

pub loop-term-preserved : goal.loop-term-preserved
loop-term-preserved c =
    let before = c.loop-term.yielded in
    record {
      held = held_as _ _ _ _ _ _ c.in_ok-push.ensures.items (map_more tree_of before c.in-Some.term) (held_more _ _ _ _ _ _ _ c.loop-term.invariant.held c.in_ok-hold_context.ensures.grows c.in_ok-hold_context.ensures.context);
      whole = c.loop-term.invariant.whole ∙ ap (λ items. before ++ items) c.in-Some.ensures.steps.0 ∙ sym (append_assoc before (c.in-Some.term ∷ []) c.next.new.self.rest.items);
    }

pub returns : goal.returns
returns c =
    let none : c.loop-term.term-iterator.rest.items ≡ [] = no_items c.loop-term.term-iterator.rest.items (omega (arith, c.loop-term.term-iterator.rest.ok, c.in-None.ensures.steps.0)) in
    let whole : c.args.terms.items ≡ c.loop-term.yielded = c.loop-term.invariant.whole ∙ ap (λ items. c.loop-term.yielded ++ items) none ∙ append-nil c.loop-term.yielded in
    record { held = held_as _ _ _ _ _ _ refl (ap (map tree_of) whole) c.loop-term.invariant.held }
