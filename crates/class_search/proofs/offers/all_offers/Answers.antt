use Rattle.std.proofs.Common.{◌≡◌, ◌+◌, ◌<◌, List, IfOk, length, take, subst, sym, arith, slice_index_or}
use Rattle.end_search.specs.Found.{AreAll}
use Rattle.end_search.proofs.GrownLemmas.{all_whole}
use Rattle.class_search.specs.declared.ends.Offer.{Offer}
use Rattle.class_search.specs.declared.logs.ClassLog.{ClassLog}
use Rattle.class_search.specs.Found.{HasOffersIn, end_in}
use Rattle.class_search.proofs.OfferLemmas.{one_log_more, all_offered}
use Rattle.class_search.proofs.offers.all_offers.Goals as goal

pub loop-log-preserved : goal.loop-log-preserved
loop-log-preserved g c =
    let K = g.C.Cuts.classes c.args.cuts.now in
    let program = g.C.Cuts.program c.args.cuts.now in
    let x = end_in program c.args.end.now in
    let rows = c.args.end.now.logs.items in
    let k = c.loop-log.log-index in
    let l = c.log-item.result in
    let more = subst (λ r. IfOk r (λ v. HasOffersIn K program x v.items l)) c.in-Ok.is c.in_ok-offers.ensures.all in
    subst (λ (os : List Offer). AreAll (HasOffersIn K program x os) (take (k + 1) rows)) (sym c.in_ok-append-in-Ok.ensures.items)
    (one_log_more K program x rows k l c.loop-log.all.items c.in-Ok.offers.items
    (subst (λ (ls : List ClassLog). k < length ls) c.deref-log-items.ensures.value c.loop-log-test.true)
    (subst (λ (ls : List ClassLog). l ≡ slice_index_or ls k l) c.deref-log-items.ensures.value c.log-item.is)
    c.loop-log.invariant more)

pub returns : goal.returns
returns g c =
    let K = g.C.Cuts.classes c.args.cuts.now in
    let program = g.C.Cuts.program c.args.cuts.now in
    let x = end_in program c.args.end.now in
    let os = c.loop-log.all.items in
    let k = c.loop-log.log-index in
    record {
      all = all_offered K program c.args.end.now os (all_whole (HasOffersIn K program x os) c.args.end.now.logs.items k
          (λ lt. omega (arith, subst (λ (ls : List ClassLog). k < length ls) (sym c.deref-log-items.ensures.value) lt, c.loop-log-test.false))
          c.loop-log.invariant);
    }
