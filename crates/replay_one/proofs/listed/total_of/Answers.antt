use Rattle.replay_one.proofs.ListedLemmas.{counted}
use Rattle.replay_one.proofs.listed.total_of.Goals as goal

pub loop-count-preserved : goal.loop-count-preserved
loop-count-preserved c = counted c.args.counts.now c.loop-count.count-index c.count-item.result c.loop-count.sum c.saturating_add-sum.result c.loop-count-test.true c.count-item.is c.loop-count.invariant c.saturating_add-sum.ensures
