use Rattle.std.proofs.Common.{map, take}
use Rattle.asp_model.specs.Shapes.{service_entry_shape}
use Rattle.end_search.specs.Found.{AreAll}
use Rattle.replay_classes.specs.Classes.{class_in}
use Rattle.replay_classes.proofs.ServiceLemmas.{AskInClasses}
use Rattle.replay_classes.proofs.services.ask_in_classes.Given as goal

abbrev pub invariant-loop-entry : goal.invariant-loop-entry
invariant-loop-entry l = AreAll (AskInClasses (class_in l.classes)) (map service_entry_shape (take l.entry-index l.entry-items))
