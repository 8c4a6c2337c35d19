use Rattle.std.proofs.Common.{◌≡◌, take}
use Rattle.replay_offers.specs.Logs.{even}
use Rattle.replay_offers.proofs.logs.even_counts.Given as goal

abbrev pub invariant-loop-entry : goal.invariant-loop-entry
invariant-loop-entry l = l.entries.items ≡ even l.count (take l.entry-index l.entry-items)
