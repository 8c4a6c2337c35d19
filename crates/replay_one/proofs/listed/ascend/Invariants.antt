use Rattle.replay_one.proofs.ListedLemmas.{RiseTo}
use Rattle.replay_one.proofs.listed.ascend.Given as goal

abbrev pub invariant-loop-place : goal.invariant-loop-place
invariant-loop-place l = RiseTo l.lists l.place
