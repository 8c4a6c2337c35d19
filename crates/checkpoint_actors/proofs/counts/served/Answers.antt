use Rattle.std.proofs.Common.{arith}
use Rattle.checkpoint_actors.proofs.counts.served.Goals as goal

pub returns : goal.returns
returns c = record { served = omega (arith, c.count_of.ensures.count, c.len.ensures, c.requires.pending) }
