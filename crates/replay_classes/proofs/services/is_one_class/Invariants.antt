use Rattle.std.proofs.Common.{◌≡◌, map, take}
use Rattle.asp_model.specs.Names.{Text}
use Rattle.end_search.specs.Found.{AreAll}
use Rattle.serve_rules.specs.Labels.{label_text}
use Rattle.replay_classes.specs.Classes.{class_in}
use Rattle.replay_classes.proofs.services.is_one_class.Given as goal

abbrev pub invariant-loop-label : goal.invariant-loop-label
invariant-loop-label l = AreAll (λ (t : Text). class_in l.classes t ≡ l.class) (map label_text (take l.label-index l.labels))
