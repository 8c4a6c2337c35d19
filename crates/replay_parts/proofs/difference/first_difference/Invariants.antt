use Rattle.std.proofs.Common.{◌≡◌, drop}
use Rattle.replay_parts.proofs.DifferenceLemmas.{difference_in}
use Rattle.replay_parts.proofs.difference.first_difference.Given as goal

abbrev pub invariant-loop-place : goal.invariant-loop-place
invariant-loop-place l = difference_in (drop l.place l.reports) (drop l.place l.lists) (drop l.place l.counts) ≡ difference_in l.reports l.lists l.counts
