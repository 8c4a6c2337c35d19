use Rattle.std.specs.Prelude.{◌<◌, length}
use Rattle.std.proofs.Common.{subst, arith, IfOk}
use Rattle.end_search.specs.Found.{AreWithin, IfComplete}
use Rattle.end_search.proofs.SearchLemmas.{closing}
use Rattle.end_search.proofs.search.close_all.Goals as goal

pub loop-done-preserved : goal.loop-done-preserved
loop-done-preserved g c =
    let begins = g.S.Ends.begins in
    let offered = g.S.Ends.offered c.args.runs.now in
    let e = c.in_ok-stop.ensures in
    let now = c.loop-done.ends.items in
    let new = c.meet_all.new.ends.items in
    let x = c.index.result.now in
    let lt : c.loop-done.done < length now = omega (arith, c.if-done-len.false, c.len.ensures) in
    let all = subst (λ r. IfOk r (λ v. offered x v.items)) c.in-Ok.is c.in_ok-offers.ensures.all in
    let within = subst (IfComplete (AreWithin begins new c.deref.result.now)) c.in-Complete.is e.within in
    closing (g.S.Ends.ended c.args.runs.now) begins offered c.args.most c.args.ends.now.items now new c.loop-done.done x c.in-Ok.offers.items lt c.index.ensures c.loop-done.invariant e.found e.grows all
    (subst (AreWithin begins new) c.deref.ensures.value within)
