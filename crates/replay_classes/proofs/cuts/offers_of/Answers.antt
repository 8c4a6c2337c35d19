use Rattle.std.proofs.Common.{◌∙◌, sym, ap}
use Rattle.replay_classes.proofs.CutLemmas.{offers_else, offers_then}
use Rattle.replay_classes.proofs.cuts.offers_of.Goals as goal
use Rattle.replay_classes.proofs.cuts.offers_of.Goals.{then-is_to+in_ok-offer_of+in_ok-push, else-is_to}

pub loop-next-preserved : goal.loop-next-preserved
loop-next-preserved c =
    let ss = c.args.sendings.now in
    let nexts = c.args.nexts.now in
    let k = c.loop-next.next-index in
    let s = c.next-item.result in
    let cut = c.args.cut.now in
    let os = c.loop-next.offers.items in
    elim c.if-is_to.branch [
      | then-is_to+in_ok-offer_of+in_ok-push w ↦ offers_then ss nexts k s cut.to cut.class os c.if-is_to.offers.items c.loop-next-test.true c.next-item.is c.loop-next.invariant
          w.in_ok-offer_of.field-0 (ap (λ v. v.items) w.offers-is ∙ w.in_ok-push.ensures.items) w.in_ok-offer_of.ensures.logs
      | else-is_to w ↦ offers_else ss nexts k s cut.to cut.class os c.if-is_to.offers.items c.loop-next-test.true c.next-item.is c.loop-next.invariant
          (sym c.is_to.ensures.to ∙ w.if-is_to.false) (ap (λ v. v.items) w.offers-is)
    ]
