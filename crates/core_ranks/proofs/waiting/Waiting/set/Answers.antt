use Rattle.std.proofs.Common.{Some}
use Rattle.core_ranks.proofs.WaitingLemmas.{stay_elsewhere}
use Rattle.core_ranks.proofs.waiting.Waiting.set.Goals as goal

pub returns-clause-others : goal.returns-clause-others
returns-clause-others c = stay_elsewhere c.args.self.now (record { alloc = c.args.self.now.alloc; numbers = c.insert.new.self }) c.args.future (Some c.args.numbers) c.in_ok-insert.ensures.updates
