use Rattle.std.proofs.Common.{◌≡◌, ◌∙◌, List, false, map, refl, subst, arith}
use Rattle.asp_model.specs.declared.services.ServiceEntry.{ServiceEntry}
use Rattle.asp_model.specs.Services.{ServiceEntryShape}
use Rattle.asp_model.specs.Shapes.{service_entry_shape}
use Rattle.end_search.specs.Found.{AreAll}
use Rattle.replay_classes.proofs.SendingLemmas.{take_whole}
use Rattle.replay_classes.proofs.ServiceLemmas.{entry_so}
use Rattle.replay_classes.proofs.services.nobody_polls.Goals as goal

abbrev IsQuiet : ServiceEntryShape → Type 0
IsQuiet e = e.polled ≡ false

pub returns : goal.returns
returns c =
    let xs : List ServiceEntry = c.deref-entry-items.result.now in
    let all = subst (λ (es : List ServiceEntry). AreAll IsQuiet (map service_entry_shape es)) (take_whole xs c.loop-entry.entry-index (λ lt. omega (arith, lt, c.loop-entry-test.false)) ∙ c.deref-entry-items.ensures.value) c.loop-entry.invariant in
    record { polled = λ n t. entry_so IsQuiet (λ m. refl) (map service_entry_shape c.args.services.now.entries.items) all n }
