use Rattle.replay_classes.specs.Classes.{class_in}
use Rattle.replay_classes.specs.Walks.{GoesOn}
use Rattle.replay_classes.proofs.walks.go.Given as goal

abbrev pub invariant-loop-taken : goal.invariant-loop-taken
invariant-loop-taken l = GoesOn (class_in l.classes) l.initial.walk l.walk
