use Rattle.std.proofs.Common.{arith}
use Rattle.sender_log.specs.Progress.{fits_at, next_shape, progress_shape}
use Rattle.sender_log.proofs.StepLemmas.{entry_over}
use Rattle.sender_log.proofs.step.with_read.Goals as goal

pub returns-then-count-progress : goal.returns-then-count-progress
returns-then-count-progress c =
    let p = c.args.progress.now in
    entry_over (fits_at (next_shape p.next)) (progress_shape p) (c.args.name, c.args.count) (omega (arith, p.sum, p.within, c.if-count-progress.true))
