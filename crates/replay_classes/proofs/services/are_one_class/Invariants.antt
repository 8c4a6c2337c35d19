use Rattle.std.proofs.Common.{map, take}
use Rattle.asp_model.specs.Shapes.{labels_shape}
use Rattle.end_search.specs.Found.{AreAll}
use Rattle.law_classes.specs.Alike.{AreOneClass}
use Rattle.replay_classes.specs.Classes.{class_in}
use Rattle.replay_classes.proofs.services.are_one_class.Given as goal

abbrev pub invariant-loop-set : goal.invariant-loop-set
invariant-loop-set l = AreAll (AreOneClass (class_in l.classes)) (map labels_shape (take l.set-index l.sets))
