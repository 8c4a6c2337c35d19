use Rattle.std.proofs.Common.{◌<◌, length, get_or, arith}
use Rattle.std.proofs.lemmas.Option.{slice_get-get_or}
use Rattle.asp_core.proofs.FrozenLemmas.{keep_all, keep_more}
use Rattle.asp_core.proofs.freezing.settle_all.Goals as goal

pub loop-entry-init : goal.loop-entry-init
loop-entry-init c = keep_all c.args.activities.now

pub loop-entry-preserved : goal.loop-entry-preserved
loop-entry-preserved c =
    let es = c.loop-entry.activities in
    let i = c.loop-entry.entry-index in
    let e = get_or es i c.entry-item.result in
    let lt : i < length es = omega (arith, c.loop-entry-test.true, c.loop-entry.auto.entry-index-end, c.loop-entry.auto.activities) in
    keep_more c.args.activities.now es i e c.settle.new.entry (slice_get-get_or es i c.entry-item.result lt) c.in_ok-settle.ensures.keeps c.loop-entry.invariant
