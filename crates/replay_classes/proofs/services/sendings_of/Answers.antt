use Rattle.std.proofs.Common.{◌∙◌, List, map, ap, arith}
use Rattle.asp_model.specs.declared.services.ServiceEntry.{ServiceEntry}
use Rattle.asp_model.specs.Shapes.{service_entry_shape}
use Rattle.replay_classes.specs.Classes.{class_in}
use Rattle.replay_classes.specs.Sendings.{logs_from}
use Rattle.replay_classes.proofs.SendingLemmas.{take_whole}
use Rattle.replay_classes.proofs.ServiceLemmas.{all_came, all_is, all_more_came}
use Rattle.replay_classes.proofs.services.sendings_of.Goals as goal

pub loop-entry-preserved : goal.loop-entry-preserved
loop-entry-preserved c = λ q κ.
    all_more_came (class_in c.args.classes.now) c.deref-entry-items.result.now c.loop-entry.entry-index c.entry-item.result
    (logs_from c.loop-entry.sendings.items q κ) (logs_from c.add_arrivals.new.sendings.items q κ) q κ c.loop-entry-test.true c.entry-item.is
    (c.in_ok-add_arrivals.ensures.logs q κ) (c.loop-entry.invariant q κ)

pub returns : goal.returns
returns c =
    let xs : List ServiceEntry = c.deref-entry-items.result.now in
    let K = class_in c.args.classes.now in
    let es : List ServiceEntry = c.args.services.now.entries.items in
    record {
      logs = λ q κ. c.loop-entry.invariant q κ
          ∙ ap (λ (ys : List ServiceEntry). all_came K (map service_entry_shape ys) q κ) (take_whole xs c.loop-entry.entry-index (λ lt. omega (arith, lt, c.loop-entry-test.false)) ∙ c.deref-entry-items.ensures.value)
          ∙ all_is K (map service_entry_shape es) q κ c.requires.ascending;
    }
