use Rattle.std.proofs.Common.{◌≡◌, ◌≤◌, ◌<◌, ◌+◌, ap, sym, subst, arith, get_or, length, map, ◌∙◌}
use Rattle.law_steps.proofs.EntryLemmas.{In}
use Rattle.checkpoint_items.specs.Lines.{home_shape}
use Rattle.checkpoint_parts.specs.Shapes.{activity_shape, checkpoint_shape}
use Rattle.checkpoint_actors.specs.Counts.{answered_count, count_in, counts_of}
use Rattle.checkpoint_actors.proofs.CountLemmas.{served_of}
use Rattle.checkpoint_actors.proofs.MapLemmas.{answered_more, item_in, take_whole}
use Rattle.checkpoint_actors.proofs.counts.answered.Goals as goal

pub count_homes-requires : goal.count_homes-requires
count_homes-requires c =
    let v = c.args.file.now.homes in
    let size : length c.deref.result.now ≡ length v.items = ap length c.deref.ensures.value in
    record { small = omega (arith, size, v.ok.0, v.ok.1, v.small) }

pub served-requires : goal.served-requires
served-requires c =
    let file = c.args.file.now in
    let a = c.activity-item.result in
    let there : In a file.activities.items = subst (In a) c.deref-activity-items.ensures.value (item_in c.deref-activity-items.result.now c.loop-activity.activity-index a (omega arith) c.activity-item.is) in
    let is : count_in c.in_ok-counts.counts a.name ≡ counts_of (map home_shape file.homes.items) a.name = ap (λ f. f a.name) (c.in_ok-counts.ensures.counts ∙ ap (λ hs. counts_of (map home_shape hs)) c.deref.ensures.value) in
    let all : counts_of (map home_shape file.homes.items) a.name ≡ answered_count (checkpoint_shape file) (activity_shape a) + length a.parts.queue.items = served_of file c.requires.sound a there in
    record { pending = omega (arith, is, all) }

pub loop-activity-preserved : goal.loop-activity-preserved
loop-activity-preserved c =
    let file = c.args.file.now in
    let f = checkpoint_shape file in
    let a = c.activity-item.result in
    let i = c.loop-activity.activity-index in
    let value : c.deref-activity-items.result.now ≡ file.activities.items = c.deref-activity-items.ensures.value in
    let there : In a file.activities.items = subst (In a) value (item_in c.deref-activity-items.result.now i a (omega arith) c.activity-item.is) in
    let is : count_in c.in_ok-counts.counts a.name ≡ counts_of (map home_shape file.homes.items) a.name = ap (λ g. g a.name) (c.in_ok-counts.ensures.counts ∙ ap (λ hs. counts_of (map home_shape hs)) c.deref.ensures.value) in
    let all : counts_of (map home_shape file.homes.items) a.name ≡ answered_count f (activity_shape a) + length a.parts.queue.items = served_of file c.requires.sound a there in
    let number : c.served.result ≡ answered_count f (activity_shape a) = omega (arith, is, all, c.served.ensures.served) in
    let within : i < length file.activities.items = subst (λ ys. i < length ys) value c.loop-activity-test.true in
    answered_more f activity_shape file.activities.items i a _ _ _ within (c.activity-item.is ∙ ap (λ ys. get_or ys i a) value) c.in_ok-push.ensures.items c.loop-activity.invariant number

pub returns : goal.returns
returns c =
    let file = c.args.file.now in
    let i = c.loop-activity.activity-index in
    let size : length c.deref-activity-items.result.now ≡ length file.activities.items = ap length c.deref-activity-items.ensures.value in
    let all : i ≡ length file.activities.items = omega (arith, size, c.loop-activity.auto.activity-index-end, c.loop-activity-test.false) in
    record { answered = c.loop-activity.invariant ∙ ap (λ ys. map (answered_count (checkpoint_shape file)) (map activity_shape ys)) (take_whole i file.activities.items all) }
