use Rattle.std.proofs.Common.{◌≡◌, ◌∙◌, ◌++◌, ◌∷◌, [], map, refl, sym, ap, subst, arith}
use Rattle.std.proofs.lemmas.List.{append-nil, append_assoc}
use Rattle.law_steps.specs.Linked.{Each}
use Rattle.checkpoint_parts.specs.Shapes.{activity_shape}
use Rattle.checkpoint_states.specs.Activities.{MayBeMade}
use Rattle.checkpoint_makes.proofs.MadeLemmas.{each_at, map_more, no_items}
use Rattle.checkpoint_states.proofs.ActivityLemmas.{activities_as, no_activity, one_more_activity}
use Rattle.checkpoint_states.proofs.activities.make_activities.Goals as goal

pub loop-activity-init : goal.loop-activity-init
loop-activity-init c = record { made = no_activity _ _ c.in_ok-made.ensures.items; whole = sym c.into_iter-activity-iterator.ensures.into_iter_gives.0 }

pub make_activity-requires : goal.make_activity-requires
make_activity-requires c =
    let before = c.loop-activity.yielded in
    let whole : c.args.activities.items ≡ before ++ (c.in-Some.activity ∷ c.next.new.self.rest.items) = c.loop-activity.invariant.whole ∙ ap (λ items. before ++ items) c.in-Some.ensures.steps.0 in
    record { table = c.loop-activity.invariant.made.grows.table c.requires.table; proper = each_at MayBeMade activity_shape before c.in-Some.activity c.next.new.self.rest.items (subst (λ xs. Each MayBeMade (map activity_shape xs)) whole c.requires.proper) }

pub loop-activity-preserved : goal.loop-activity-preserved
loop-activity-preserved c =
    let before = c.loop-activity.yielded in
    record {
      made = activities_as _ _ _ _ _ _ c.in_ok-push.ensures.items (map_more activity_shape before c.in-Some.activity) (one_more_activity _ _ _ _ _ _ _ c.loop-activity.invariant.made c.in_ok-make_activity.ensures.made);
      whole = c.loop-activity.invariant.whole ∙ ap (λ items. before ++ items) c.in-Some.ensures.steps.0 ∙ sym (append_assoc before (c.in-Some.activity ∷ []) c.next.new.self.rest.items);
    }

pub returns : goal.returns
returns c =
    let none : c.loop-activity.activity-iterator.rest.items ≡ [] = no_items c.loop-activity.activity-iterator.rest.items (omega (arith, c.loop-activity.activity-iterator.rest.ok, c.in-None.ensures.steps.0)) in
    let whole : c.args.activities.items ≡ c.loop-activity.yielded = c.loop-activity.invariant.whole ∙ ap (λ items. c.loop-activity.yielded ++ items) none ∙ append-nil c.loop-activity.yielded in
    record { made = activities_as _ _ _ _ _ _ refl (ap (map activity_shape) whole) c.loop-activity.invariant.made }
