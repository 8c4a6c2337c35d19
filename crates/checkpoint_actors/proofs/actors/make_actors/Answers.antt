use Rattle.std.proofs.Common.{◌≡◌, ◌+◌, ◌<◌, ◌∙◌, ◌++◌, ◌∷◌, [], get_or, length, length-append, sym, ap, arith}
use Rattle.std.proofs.lemmas.List.{append-nil, append_assoc}
use Rattle.std.specs.Arc.{arc_value}
use Rattle.checkpoint_makes.proofs.MadeLemmas.{no_items}
use Rattle.checkpoint_actors.proofs.ActorLemmas.{actors_more, actors_none, actors_whole, slice_here}
use Rattle.checkpoint_actors.proofs.actors.make_actors.Goals as goal

pub loop-activity-init : goal.loop-activity-init
loop-activity-init c = record {
  actors = λ f xs stand counts. actors_none (arc_value c.args.code.now) f xs c.in_ok-actors.actors.items c.in_ok-actors.ensures.items;
  number = ap length c.in_ok-actors.ensures.items;
  whole = sym c.into_iter-activity-iterator.ensures.into_iter_gives.0;
}

pub loop-activity-preserved : goal.loop-activity-preserved
loop-activity-preserved c =
    let before = c.loop-activity.yielded in
    let rest = c.next.new.self.rest.items in
    let a = c.in-Some.activity in
    let es = c.loop-activity.actors.items in
    let e = c.in_ok-make_actor.field-0 in
    let ns = c.args.answered.now in
    let i = c.len-number.result in
    let whole : c.args.activities.items ≡ before ++ (a ∷ rest) = c.loop-activity.invariant.whole ∙ ap (λ items. before ++ items) c.in-Some.ensures.steps.0 in
    let all : length c.args.activities.items ≡ length (before ++ (a ∷ rest)) = ap length whole in
    let parts : length (before ++ (a ∷ rest)) ≡ length before + length (a ∷ rest) = length-append before (a ∷ rest) in
    let within : length before < length ns = omega (arith, all, parts, c.requires.numbers) in
    let same : i ≡ length before = omega (arith, c.len-number.ensures, c.loop-activity.invariant.number) in
    let more : length c.push.new.self.items ≡ length (es ++ e ∷ []) = ap length c.in_ok-push.ensures.items in
    let one : length (es ++ e ∷ []) ≡ length es + 1 = length-append es (e ∷ []) in
    let next : length (before ++ a ∷ []) ≡ length before + 1 = length-append before (a ∷ []) in
    record {
      actors = actors_more (arc_value c.args.code.now) before a rest c.args.activities.items es c.push.new.self.items e ns (get_or ns i 0) whole c.in_ok-push.ensures.items
          (slice_here ns (length before) i same within) c.loop-activity.invariant.actors c.in_ok-make_actor.ensures.actor;
      number = omega (arith, more, one, next, c.loop-activity.invariant.number);
      whole = whole ∙ sym (append_assoc before (a ∷ []) rest);
    }

pub returns : goal.returns
returns c =
    let none : c.loop-activity.activity-iterator.rest.items ≡ [] = no_items c.loop-activity.activity-iterator.rest.items (omega (arith, c.loop-activity.activity-iterator.rest.ok, c.in-None.ensures.steps.0)) in
    let whole : c.args.activities.items ≡ c.loop-activity.yielded = c.loop-activity.invariant.whole ∙ ap (λ items. c.loop-activity.yielded ++ items) none ∙ append-nil c.loop-activity.yielded in
    record {
      actors = λ f xs stand counts.
          actors_whole (arc_value c.args.code.now) f (length c.loop-activity.yielded) c.args.activities.items xs c.loop-activity.actors.items stand (ap length (sym whole)) (c.loop-activity.invariant.actors f xs stand counts);
    }
