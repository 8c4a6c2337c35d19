use Rattle.std.proofs.Common.{None}
use Rattle.core_ranks.proofs.WaitingLemmas.{stay_elsewhere}
use Rattle.core_ranks.proofs.waiting.Waiting.take.Goals as goal

pub returns-in-Some-clause-others : goal.returns-in-Some-clause-others
returns-in-Some-clause-others c = stay_elsewhere c.args.self.now (record { alloc = c.args.self.now.alloc; numbers = c.remove.new.self }) c.args.future.now None c.in-Some.ensures.updates
