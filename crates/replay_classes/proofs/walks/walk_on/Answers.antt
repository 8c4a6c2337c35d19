use Rattle.replay_classes.specs.Classes.{class_in}
use Rattle.replay_classes.proofs.WalkLemmas.{goes_both, some_on}
use Rattle.replay_classes.proofs.walks.walk_on.Goals as goal

pub round-requires : goal.round-requires
round-requires c = record { walk = some_on (class_in c.args.classes.now) c.args.walk.now c.loop-round.walk c.requires.walk c.loop-round.invariant }

pub returns-then-not-branch : goal.returns-then-not-branch
returns-then-not-branch c = record { goes = goes_both (class_in c.args.classes.now) c.args.walk.now c.loop-round.walk c.round.new.walk c.loop-round.invariant c.in_ok-round.ensures.goes }

pub loop-round-preserved : goal.loop-round-preserved
loop-round-preserved c = goes_both (class_in c.args.classes.now) c.args.walk.now c.loop-round.walk c.round.new.walk c.loop-round.invariant c.in_ok-round.ensures.goes
