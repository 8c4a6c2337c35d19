use Rattle.std.proofs.Common.{subst}
use Rattle.end_search.specs.Found.{IfComplete, IsWithin}
use Rattle.end_search.proofs.SearchLemmas.{meeting}
use Rattle.end_search.proofs.search.meet_all.Goals as goal

pub loop-offer-preserved : goal.loop-offer-preserved
loop-offer-preserved g c =
    let e = c.in_ok-stop.ensures in
    let new = c.meet.new.ends.items in
    let o = c.offer-item.result in
    meeting (g.S.Ends.ended c.args.runs.now) g.S.Ends.begins c.args.most c.args.ends.now.items c.loop-offer.ends.items new c.args.offers.now c.loop-offer.offer-index o c.loop-offer-test.true c.offer-item.is c.loop-offer.invariant e.found e.grows
    (subst (IfComplete (IsWithin g.S.Ends.begins new o)) c.in-Complete.is e.within)
