use Rattle.std.proofs.Common.{◌≡◌, ◌∙◌, ◌++◌, ◌∷◌, [], map, refl, sym, ap, subst, arith}
use Rattle.std.proofs.lemmas.List.{append-nil, append_assoc}
use Rattle.law_steps.specs.Linked.{Each}
use Rattle.checkpoint_reading.specs.Cells.{value_shape}
use Rattle.checkpoint_actors.specs.Values.{IsProperValue}
use Rattle.checkpoint_makes.proofs.MadeLemmas.{each_at, map_more, no_items}
use Rattle.checkpoint_actors.proofs.ValueLemmas.{no_value, one_more_value, values_as}
use Rattle.checkpoint_actors.proofs.values.make_values.Goals as goal

pub loop-value-init : goal.loop-value-init
loop-value-init c = record { made = no_value _ _ c.in_ok-made.ensures.items; whole = sym c.into_iter-value-iterator.ensures.into_iter_gives.0 }

pub make_value-requires : goal.make_value-requires
make_value-requires c =
    let before = c.loop-value.yielded in
    let whole : c.args.values.items ≡ before ++ (c.in-Some.value ∷ c.next.new.self.rest.items) = c.loop-value.invariant.whole ∙ ap (λ items. before ++ items) c.in-Some.ensures.steps.0 in
    record { table = c.loop-value.invariant.made.grows.table c.requires.table; proper = each_at IsProperValue value_shape before c.in-Some.value c.next.new.self.rest.items (subst (λ vs. Each IsProperValue (map value_shape vs)) whole c.requires.proper) }

pub loop-value-preserved : goal.loop-value-preserved
loop-value-preserved c =
    let before = c.loop-value.yielded in
    record {
      made = values_as _ _ _ _ _ _ c.in_ok-push.ensures.items (map_more value_shape before c.in-Some.value) (one_more_value _ _ _ _ _ _ _ c.loop-value.invariant.made c.in_ok-make_value.ensures.made);
      whole = c.loop-value.invariant.whole ∙ ap (λ items. before ++ items) c.in-Some.ensures.steps.0 ∙ sym (append_assoc before (c.in-Some.value ∷ []) c.next.new.self.rest.items);
    }

pub returns : goal.returns
returns c =
    let none : c.loop-value.value-iterator.rest.items ≡ [] = no_items c.loop-value.value-iterator.rest.items (omega (arith, c.loop-value.value-iterator.rest.ok, c.in-None.ensures.steps.0)) in
    let whole : c.args.values.items ≡ c.loop-value.yielded = c.loop-value.invariant.whole ∙ ap (λ items. c.loop-value.yielded ++ items) none ∙ append-nil c.loop-value.yielded in
    record { made = values_as _ _ _ _ _ _ refl (ap (map value_shape) whole) c.loop-value.invariant.made }
