use Rattle.std.proofs.Common.{◌≡◌, false, map, take}
use Rattle.asp_model.specs.Services.{ServiceEntryShape}
use Rattle.asp_model.specs.Shapes.{service_entry_shape}
use Rattle.end_search.specs.Found.{AreAll}
use Rattle.replay_classes.proofs.services.nobody_polls.Given as goal

abbrev pub invariant-loop-entry : goal.invariant-loop-entry
invariant-loop-entry l = AreAll (λ (e : ServiceEntryShape). e.polled ≡ false) (map service_entry_shape (take l.entry-index l.entry-items))
