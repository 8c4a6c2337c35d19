use Rattle.std.proofs.Common.{refl, arith}
use Rattle.end_search.proofs.GrownLemmas.{all_whole}
use Rattle.class_search.specs.Logs.{logs_of}
use Rattle.class_search.proofs.LogLemmas.{BeginsAt, all_begun}
use Rattle.class_search.proofs.logs.begin_with.Goals as goal

pub returns : goal.returns
returns c =
    let others = c.args.others.now in
    let lists = logs_of c.args.logs.now in
    record { begin = (λ t. all_begun lists others (all_whole (BeginsAt (logs_of others) lists) others c.loop-log.log-index (λ lt. omega (arith, lt, c.loop-log-test.false)) c.loop-log.invariant), λ b. refl) }
