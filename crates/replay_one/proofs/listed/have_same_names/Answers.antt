use Rattle.std.proofs.Common.{◌<◌, length, sym, arith, ◌∙◌}
use Rattle.asp_model.specs.Order.{same_name_same}
use Rattle.replay_one.proofs.ListedLemmas.{name_at_place, no_true, not_both, same_more, same_name_of, true_by_not}
use Rattle.replay_one.proofs.listed.have_same_names.Goals as goal

pub returns-then-ne : goal.returns-then-ne
returns-then-ne c = (
  λ e. no_true e,
  λ same.
      let h : c.loop-place.place < length c.args.counts.now = omega (arith, c.if-lists-counts.false, c.loop-place-test.true) in
      not_both _ (same_name_of _ _ (name_at_place c.args.lists.now c.args.counts.now c.loop-place.place c.index-lists-place.result c.index-counts-place.result c.loop-place-test.true h same)) (sym c.ne.ensures ∙ c.if-ne.true),
)

pub loop-place-preserved : goal.loop-place-preserved
loop-place-preserved c =
    let h : c.loop-place.place < length c.args.counts.now = omega (arith, c.if-lists-counts.false, c.loop-place-test.true) in
    same_more c.args.lists.now c.args.counts.now c.loop-place.place c.index-lists-place.result c.index-counts-place.result c.loop-place-test.true h (same_name_same _ _ (true_by_not _ (sym c.ne.ensures ∙ c.if-ne.false))) c.loop-place.invariant
