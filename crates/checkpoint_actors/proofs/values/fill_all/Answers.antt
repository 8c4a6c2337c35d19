use Rattle.std.proofs.Common.{◌≡◌, ◌∙◌, ◌++◌, ◌∷◌, [], T, map, refl, sym, ap, subst, arith}
use Rattle.std.proofs.lemmas.List.{append-nil, append_assoc}
use Rattle.std.specs.Arc.{arc_value}
use Rattle.std.specs.FinMap.{find, is_sorted}
use Rattle.asp_model.specs.Names.{future_cmp}
use Rattle.code_table.specs.Cells.{held_future}
use Rattle.law_steps.specs.Linked.{Each}
use Rattle.checkpoint_makes.proofs.MadeLemmas.{each_here, no_items}
use Rattle.checkpoint_actors.specs.Values.{HasOneRoot, value_by}
use Rattle.checkpoint_actors.proofs.ValueLemmas.{next_last, none_coded, value_last}
use Rattle.checkpoint_actors.proofs.values.fill_all.Goals as goal

pub loop-value-init : goal.loop-value-init
loop-value-init c = record { values = c.new-table.ensures.values; coded = none_coded _ _ c.new-table.ensures.values; whole = sym c.into_iter-value-iterator.ensures.into_iter_gives.0 }

pub fill-requires : goal.fill-requires
fill-requires c =
    let before = c.loop-value.yielded in
    let k = arc_value c.args.code.now in
    let rest = c.next.new.self.rest.items in
    let whole : c.args.values.items ≡ before ++ (c.in-Some.value ∷ rest) = c.loop-value.invariant.whole ∙ ap (λ items. before ++ items) c.in-Some.ensures.steps.0 in
    record {
      absent = ap (find future_cmp (held_future c.in-Some.value.future)) c.loop-value.invariant.values ∙ (next_last k before c.in-Some.value rest (subst (λ vs. T (is_sorted future_cmp (map (value_by k) vs))) whole c.requires.ascend)).1;
      one_root = each_here HasOneRoot before c.in-Some.value rest (subst (Each HasOneRoot) whole c.requires.one_root);
    }

pub loop-value-preserved : goal.loop-value-preserved
loop-value-preserved c =
    let before = c.loop-value.yielded in
    let k = arc_value c.args.code.now in
    let rest = c.next.new.self.rest.items in
    let whole : c.args.values.items ≡ before ++ (c.in-Some.value ∷ rest) = c.loop-value.invariant.whole ∙ ap (λ items. before ++ items) c.in-Some.ensures.steps.0 in
    record {
      values = value_last k before c.in-Some.value rest _ _ (subst (λ vs. T (is_sorted future_cmp (map (value_by k) vs))) whole c.requires.ascend) c.loop-value.invariant.values c.in_ok-fill.ensures.filled;
      coded = c.in_ok-fill.ensures.filled.coded c.loop-value.invariant.coded;
      whole = whole ∙ sym (append_assoc before (c.in-Some.value ∷ []) rest);
    }

pub returns : goal.returns
returns c =
    let none : c.loop-value.value-iterator.rest.items ≡ [] = no_items c.loop-value.value-iterator.rest.items (omega (arith, c.loop-value.value-iterator.rest.ok, c.in-None.ensures.steps.0)) in
    let whole : c.args.values.items ≡ c.loop-value.yielded = c.loop-value.invariant.whole ∙ ap (λ items. c.loop-value.yielded ++ items) none ∙ append-nil c.loop-value.yielded in
    record { values = c.loop-value.invariant.values ∙ ap (map (value_by (arc_value c.args.code.now))) (sym whole); code = c.loop-value.invariant.coded }
