use Rattle.std.proofs.Common.{◌+◌, List, IfOk, subst, sym}
use Rattle.class_search.specs.declared.ends.Offer.{Offer}
use Rattle.class_search.specs.Found.{HasOffers, HasOffersTo, end_in}
use Rattle.class_search.proofs.OfferLemmas.{one_place_more}
use Rattle.class_search.proofs.offers.offers_in.Goals as goal

pub loop-place-preserved : goal.loop-place-preserved
loop-place-preserved g c =
    let K = g.C.Cuts.classes c.args.cuts.now in
    let program = g.C.Cuts.program c.args.cuts.now in
    let x = end_in program c.args.end.now in
    let l = c.args.log.now in
    let place = c.loop-place.place in
    let more = subst (λ r. IfOk r (λ v. HasOffers K program x l.to l.class place v.items)) c.in-Ok.is c.in_ok-offers.ensures.all in
    subst (λ (os : List Offer). HasOffersTo K program x (place + 1) os l) (sym c.in_ok-append-in-Ok.ensures.items)
    (one_place_more K program x l place c.loop-place.all.items c.in-Ok.offers.items c.loop-place.invariant more)
