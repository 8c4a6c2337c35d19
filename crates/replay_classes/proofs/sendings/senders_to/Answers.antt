use Rattle.std.proofs.Common.{◌∙◌, sym, ap}
use Rattle.asp_model.specs.Configuration.{From}
use Rattle.asp_model.specs.declared.outcome.Reception.TheVariants as reception
use Rattle.replay_classes.proofs.SendingLemmas.{gathered_then, gathered_else}
use Rattle.replay_classes.proofs.sendings.senders_to.Goals as goal
use Rattle.replay_classes.proofs.sendings.senders_to.Goals.{then-is_to+in_ok-copy+in_ok-push, else-is_to}

pub loop-sending-preserved : goal.loop-sending-preserved
loop-sending-preserved c =
    let ss = c.args.sendings.now in
    let k = c.loop-sending.sending-index in
    let s = c.sending-item.result in
    let before = c.loop-sending.senders.items in
    elim c.if-is_to.branch [
      | then-is_to+in_ok-copy+in_ok-push w ↦ gathered_then ss k s c.args.to.now c.args.class before c.if-is_to.senders.items (reception.From w.in_ok-copy.field-0) c.loop-sending-test.true c.sending-item.is
          (sym c.is_to.ensures.to ∙ w.if-is_to.true)
          (ap (λ v. v.items) w.senders-is ∙ w.in_ok-push.ensures.items)
          (ap From w.in_ok-copy.ensures.name) c.loop-sending.invariant
      | else-is_to w ↦ gathered_else ss k s c.args.to.now c.args.class before c.if-is_to.senders.items c.loop-sending-test.true c.sending-item.is
          (sym c.is_to.ensures.to ∙ w.if-is_to.false)
          (ap (λ v. v.items) w.senders-is) c.loop-sending.invariant
    ]
