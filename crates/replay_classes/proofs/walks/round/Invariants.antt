use Rattle.replay_classes.specs.Classes.{class_in}
use Rattle.replay_classes.specs.Walks.{GoesOn}
use Rattle.replay_classes.proofs.walks.round.Given as goal

abbrev pub invariant-loop-number : goal.invariant-loop-number
invariant-loop-number l = GoesOn (class_in l.classes) l.initial.walk l.walk
