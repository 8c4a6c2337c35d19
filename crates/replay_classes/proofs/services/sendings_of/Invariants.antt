use Rattle.std.proofs.Common.{◌≡◌, ℕ, map, take}
use Rattle.asp_model.specs.Names.{Name}
use Rattle.asp_model.specs.Shapes.{service_entry_shape}
use Rattle.replay_classes.specs.Classes.{class_in}
use Rattle.replay_classes.specs.Sendings.{logs_from}
use Rattle.replay_classes.proofs.ServiceLemmas.{all_came}
use Rattle.replay_classes.proofs.services.sendings_of.Given as goal

abbrev pub invariant-loop-entry : goal.invariant-loop-entry
invariant-loop-entry l = (q : Name) (κ : ℕ) → logs_from l.sendings.items q κ
    ≡ all_came (class_in l.classes) (map service_entry_shape (take l.entry-index l.entry-items)) q κ
