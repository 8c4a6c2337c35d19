use Rattle.std.proofs.Common.{length, ◌-◌}
use Rattle.explain.proofs.around.tokens_round.Given as goal

abbrev pub decreases-loop-after : goal.decreases-loop-after
decreases-loop-after l = length l.bytes - l.after
