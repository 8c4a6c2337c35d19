use Rattle.std.proofs.Common.{sym, ◌∙◌, arith}
use Rattle.replay_one.proofs.ListedLemmas.{falls, sorted_rise}
use Rattle.replay_one.proofs.listed.ascend.Goals as goal

pub returns-then-ge : goal.returns-then-ge
returns-then-ge c = falls c.args.lists.now _ c.loop-place.place c.index-lists-place.result c.index-lists-place-in-loop-place.result (omega (arith, c.loop-place.auto.place)) c.loop-place-test.true (sym c.ge.ensures ∙ c.if-ge.true)

pub returns : goal.returns
returns c = sym (sorted_rise c.args.lists.now (λ k d h. c.loop-place.invariant k d (omega (arith, h, c.loop-place-test.false))))
