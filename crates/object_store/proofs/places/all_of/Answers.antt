use Rattle.std.proofs.Common.{◌≡◌, ◌∙◌, ◌++◌, ◌∷◌, [], sym, ap}
use Rattle.std.proofs.lemmas.List.{append-nil, append_assoc}
use Rattle.object_store.proofs.places.all_of.Goals as goal

pub loop-place-init : goal.loop-place-init
loop-place-init c = ap (λ all. all ++ c.into_iter-place-iterator.result) c.new-all.ensures.items ∙ c.into_iter-place-iterator.ensures.into_iter_gives.0

pub loop-place-preserved : goal.loop-place-preserved
loop-place-preserved c =
    let x = c.in-Some.place.now in
    let rest = c.next.new.self in
    let steps : c.loop-place.place-iterator ≡ x ∷ rest = c.in-Some.ensures.steps in
    ap (λ all. all ++ rest) c.in_ok-push.ensures.items ∙ append_assoc c.loop-place.all.items (x ∷ []) rest ∙ ap (λ more. c.loop-place.all.items ++ more) (sym steps) ∙ c.loop-place.invariant

pub returns : goal.returns
returns c = record {
  places =
      let none : c.loop-place.place-iterator ≡ [] = c.in-None.ensures.steps.0 in
      sym (append-nil c.loop-place.all.items) ∙ ap (λ more. c.loop-place.all.items ++ more) (sym none) ∙ c.loop-place.invariant;
}
