use Rattle.std.proofs.Common.{◌≡◌, ◌≤◌, ap, arith, length, map, take, ◌∙◌}
use Rattle.std.proofs.lemmas.List.{length-map}
use Rattle.checkpoint_items.specs.Lines.{home_shape}
use Rattle.checkpoint_actors.specs.Counts.{count_in, counts_of}
use Rattle.checkpoint_actors.proofs.MapLemmas.{counts_more, counts_small, take_whole, taken_small}
use Rattle.checkpoint_actors.proofs.counts.count_homes.Goals as goal

pub add-requires : goal.add-requires
add-requires c =
    let hs = c.args.homes.now in
    let i = c.loop-home.home-index in
    let n = c.loop-home-item.result.1 in
    let is : count_in c.loop-home.counts n ≡ counts_of (map home_shape (take i hs)) n = ap (λ f. f n) c.loop-home.invariant in
    let le : counts_of (map home_shape (take i hs)) n ≤ length (map home_shape (take i hs)) = counts_small (map home_shape (take i hs)) n in
    let size : length (map home_shape (take i hs)) ≡ length (take i hs) = length-map (take i hs) home_shape in
    let most : length (take i hs) ≤ length hs = taken_small i hs in
    record { small = omega (arith, is, le, size, most, c.requires.small) }

pub loop-home-preserved : goal.loop-home-preserved
loop-home-preserved c = counts_more home_shape c.args.homes.now c.loop-home.home-index c.loop-home-item.result (omega arith) c.loop-home-item.is _ _ c.in_ok-add.ensures.counts c.loop-home.invariant

pub returns : goal.returns
returns c =
    let hs = c.args.homes.now in
    let i = c.loop-home.home-index in
    let all : i ≡ length hs = omega (arith, c.loop-home.auto.home-index-end, c.loop-home-test.false) in
    record { counts = c.loop-home.invariant ∙ ap (λ ys. counts_of (map home_shape ys)) (take_whole i hs all) }
