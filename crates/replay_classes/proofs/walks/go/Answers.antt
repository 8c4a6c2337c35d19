use Rattle.replay_classes.specs.Classes.{class_in}
use Rattle.replay_classes.proofs.WalkLemmas.{goes_both, some_on}
use Rattle.replay_classes.proofs.walks.go.Goals as goal

pub try_step-requires : goal.try_step-requires
try_step-requires c = record { walk = some_on (class_in c.args.classes.now) c.args.walk.now c.loop-taken.walk c.requires.walk c.loop-taken.invariant }

pub returns-then-not-branch : goal.returns-then-not-branch
returns-then-not-branch c = record { goes = goes_both (class_in c.args.classes.now) c.args.walk.now c.loop-taken.walk c.try_step.new.walk c.loop-taken.invariant c.in_ok-try_step.ensures.goes }

pub loop-taken-preserved : goal.loop-taken-preserved
loop-taken-preserved c = goes_both (class_in c.args.classes.now) c.args.walk.now c.loop-taken.walk c.try_step.new.walk c.loop-taken.invariant c.in_ok-try_step.ensures.goes
