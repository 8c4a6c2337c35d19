use Rattle.replay_classes.specs.Classes.{class_in}
use Rattle.replay_classes.proofs.WalkLemmas.{goes_both, some_on}
use Rattle.replay_classes.proofs.walks.round.Goals as goal

pub go-requires : goal.go-requires
go-requires c = record { walk = some_on (class_in c.args.classes.now) c.args.walk.now c.loop-number.walk c.requires.walk c.loop-number.invariant }

pub loop-number-preserved : goal.loop-number-preserved
loop-number-preserved c = goes_both (class_in c.args.classes.now) c.args.walk.now c.loop-number.walk c.go.new.walk c.loop-number.invariant c.in_ok-go.ensures.goes
