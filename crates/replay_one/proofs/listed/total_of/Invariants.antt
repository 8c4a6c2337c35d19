use Rattle.std.proofs.Common.{◌≡◌, ◌-◌, ◌^◌, min, take}
use Rattle.asp_model.specs.Replay.{total}
use Rattle.replay_one.proofs.listed.total_of.Given as goal

abbrev pub invariant-loop-count : goal.invariant-loop-count
invariant-loop-count l = l.sum ≡ min (total (take l.count-index l.counts)) (2 ^ 64 - 1)
