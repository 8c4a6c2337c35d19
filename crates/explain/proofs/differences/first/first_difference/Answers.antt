use Rattle.std.proofs.Common.{◌<◌, ◌∙◌, ap, arith, length, map, subst, sym}
use Rattle.std.proofs.lemmas.List.{length-map}
use Rattle.asp_model.specs.Shapes.{reception_shape}
use Rattle.asp_model.specs.Replay.{log_in}
use Rattle.asp_model.specs.Step.{reception_at}
use Rattle.explain.specs.Differences.{is_other}
use Rattle.explain.specs.OrderKept.{entry_shape, log_entry}
use Rattle.explain.proofs.FirstLemmas.{agree_more, met_few, met_more, some_below}
use Rattle.explain.proofs.SameLemmas.{there}
use Rattle.explain.proofs.differences.first.first_difference.Goals as goal

pub next-requires : goal.next-requires
next-requires c =
    let es = map entry_shape c.args.order.now in
    let below : c.loop-index.index < length es = subst (λ n. c.loop-index.index < n) (sym (length-map c.args.order.now entry_shape)) c.loop-index-test.true in
    let few = met_few c.loop-index.places es c.loop-index.index c.loop-index.invariant.0 below c.index-order-index.result.to in
    record { room = grind (arith, few, c.loop-index-test.true) }

pub returns-then-is_other : goal.returns-then-is_other
returns-then-is_other c =
    let others = map log_entry c.args.others.now in
    let e = c.index-order-index.result in
    let place = c.in_ok-place.ensures.place ∙ c.loop-index.invariant.0 e.to in
    record {
      first = record {
        entry = entry_shape e;
        there = there entry_shape c.args.order.now c.loop-index.index e c.index-order-index.is c.loop-index-test.true;
        place = place;
        differs =
            ap (λ k. is_other (reception_shape e.noted) (reception_at (log_in others e.to) k)) (sym place)
            ∙ ap (is_other (reception_shape e.noted)) (sym c.entry.ensures.entry) ∙ sym c.is_other.ensures ∙ c.if-is_other.true;
        first = c.loop-index.invariant.1;
      };
    }

pub loop-index-preserved : goal.loop-index-preserved
loop-index-preserved c =
    let others = map log_entry c.args.others.now in
    let es = map entry_shape c.args.order.now in
    let e = c.index-order-index.result in
    let at = there entry_shape c.args.order.now c.loop-index.index e c.index-order-index.is c.loop-index-test.true in
    let place = c.in_ok-place.ensures.place ∙ c.loop-index.invariant.0 e.to in
    let same = ap (λ k. is_other (reception_shape e.noted) (reception_at (log_in others e.to) k)) (sym place)
    ∙ ap (is_other (reception_shape e.noted)) (sym c.entry.ensures.entry) ∙ sym c.is_other.ensures ∙ c.if-is_other.false in (
      met_more c.loop-index.places c.next.new.self es c.loop-index.index (entry_shape e) at c.loop-index.invariant.0 c.in_ok-place.ensures.more,
      agree_more others es c.loop-index.index (entry_shape e) c.loop-index.invariant.1 at same,
    )

pub returns : goal.returns
returns c =
    let es = map entry_shape c.args.order.now in
    let size = length-map c.args.order.now entry_shape in
    record {
      first = λ j e at.
          let below = some_below es j e at in
          c.loop-index.invariant.1 j e (omega (arith, below, size, c.loop-index-test.false)) at;
    }
