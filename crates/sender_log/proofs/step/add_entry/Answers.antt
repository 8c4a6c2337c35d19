use Rattle.std.proofs.Common.{ap, arith}
use Rattle.asp_model.specs.Replay.{total}
use Rattle.sender_log.proofs.OrderLemmas.{total_more}
use Rattle.sender_log.proofs.step.add_entry.Goals as goal

pub invariant_of-progress-2-clause-sum : goal.invariant_of-progress-2-clause-sum
invariant_of-progress-2-clause-sum c =
    omega (arith, total_more c.args.progress.now.counts.items c.args.name c.args.count, c.args.progress.now.sum, ap total c.in_ok-push.ensures.items)
