use Rattle.std.proofs.Common.{◌∙◌, List, map, subst, arith}
use Rattle.asp_model.specs.declared.services.ServiceEntry.{ServiceEntry}
use Rattle.asp_model.specs.Shapes.{service_entry_shape}
use Rattle.end_search.specs.Found.{AreAll}
use Rattle.replay_classes.specs.Classes.{class_in}
use Rattle.replay_classes.proofs.SendingLemmas.{take_whole}
use Rattle.replay_classes.proofs.ServiceLemmas.{AskInClasses, entry_so, none_asks}
use Rattle.replay_classes.proofs.services.ask_in_classes.Goals as goal

pub returns : goal.returns
returns c =
    let xs : List ServiceEntry = c.deref-entry-items.result.now in
    let K = class_in c.args.classes.now in
    let all = subst (λ (es : List ServiceEntry). AreAll (AskInClasses K) (map service_entry_shape es)) (take_whole xs c.loop-entry.entry-index (λ lt. omega (arith, lt, c.loop-entry-test.false)) ∙ c.deref-entry-items.ensures.value) c.loop-entry.invariant in
    record { one = λ n labels t. entry_so (AskInClasses K) (none_asks K) (map service_entry_shape c.args.services.now.entries.items) all n labels }
