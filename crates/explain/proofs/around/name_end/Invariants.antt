use Rattle.std.proofs.Common.{length, ◌-◌}
use Rattle.explain.proofs.around.name_end.Given as goal

abbrev pub decreases-loop-end : goal.decreases-loop-end
decreases-loop-end l = length l.bytes - l.end
