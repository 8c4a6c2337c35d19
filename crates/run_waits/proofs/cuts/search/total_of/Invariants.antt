use Rattle.std.proofs.Common.{◌≡◌, ◌+◌, drop}
use Rattle.asp_model.specs.Replay.{total}
use Rattle.run_waits.proofs.cuts.search.total_of.Given as goal

abbrev pub invariant-loop-count : goal.invariant-loop-count
invariant-loop-count l = l.sum + total (drop l.count-index l.counts) ≡ total l.counts
