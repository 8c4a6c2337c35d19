use Rattle.std.proofs.Common.{◌≡◌, ◌<◌, ◌+◌, ◌-◌, ◌∙◌, suc, length, map, sym, subst, arith, slice_index_or}
use Rattle.std.proofs.lemmas.List.{length-map}
use Rattle.asp_model.specs.Shapes.{reception_shape}
use Rattle.outcome_search.proofs.PlaceLemmas.{none_behind, one_more, place_within}
use Rattle.outcome_search.proofs.places.open_places.Goals as goal

pub loop-back-init : goal.loop-back-init
loop-back-init c = λ k y le at. let lt = place_within (map reception_shape c.args.log.now) k y at in absurd (omega (arith, le, lt, length-map c.args.log.now reception_shape))

pub returns-then-not-same_reception : goal.returns-then-not-same_reception
returns-then-not-same_reception c =
    let log = c.args.log.now in
    record { places = λ k entry b. let lt = none_behind (reception_shape c.in-Some.last.now) (length log - c.loop-back.back) (map reception_shape log) c.loop-back.invariant k entry b in omega (arith, lt, c.loop-back-test.true) }

pub loop-back-preserved : goal.loop-back-preserved
loop-back-preserved c =
    let log = c.args.log.now in
    let back = c.loop-back.back in
    let lt : back < length log = c.loop-back-test.true in
    let p : length log - 1 - back ≡ length log - (back + 1) = omega (arith, lt) in
    let next : length log - back ≡ suc (length log - (back + 1)) = omega (arith, lt) in
    let below : length log - (back + 1) < length log = omega (arith, lt) in
    let r = c.index-log-place.result in
    one_more log (reception_shape c.in-Some.last.now) (length log - (back + 1)) (length log - back) r r c.loop-back.invariant next below (subst (λ j. r ≡ slice_index_or log j r) p c.index-log-place.is) (sym c.same_reception.ensures.same ∙ c.if-not-same_reception.false)

pub returns : goal.returns
returns c =
    let log = c.args.log.now in
    record { places = λ k entry b. let lt = none_behind (reception_shape c.in-Some.last.now) (length log - c.loop-back.back) (map reception_shape log) c.loop-back.invariant k entry b in omega (arith, lt, c.loop-back-test.false) }
