use Rattle.replay_classes.specs.Classes.{class_in}
use Rattle.replay_classes.specs.Walks.{GoesOn}
use Rattle.replay_classes.proofs.walks.walk_on.Given as goal

abbrev pub invariant-loop-round : goal.invariant-loop-round
invariant-loop-round l = GoesOn (class_in l.classes) l.initial.walk l.walk
