use Rattle.replay_classes.specs.Classes.{class_in}
use Rattle.replay_classes.specs.Sendings.{logs_from}
use Rattle.replay_classes.proofs.ServiceLemmas.{one_more_came}
use Rattle.replay_classes.proofs.services.add_arrivals.Goals as goal

pub loop-arrival-preserved : goal.loop-arrival-preserved
loop-arrival-preserved c = λ q κ.
    one_more_came (class_in c.args.classes.now) c.args.entry.now.name c.deref-arrival-items.result.now c.loop-arrival.arrival-index c.arrival-item.result
    (logs_from c.args.sendings.now.items q κ) c.loop-arrival.sendings.items _
    (record { by = c.in_ok-copy.field-0; to = c.in_ok-copy-2.field-0; class = c.class_of.result })
    q κ c.loop-arrival-test.true c.arrival-item.is c.in_ok-push.ensures.items c.in_ok-copy.ensures.name c.in_ok-copy-2.ensures.name c.class_of.ensures.class
    (c.loop-arrival.invariant q κ)
