use Rattle.asp_model.specs.Configuration.{start}
use Rattle.asp_model.specs.Shapes.{tree_of}
use Rattle.replay_classes.specs.Classes.{class_in}
use Rattle.replay_classes.proofs.walks.walk_by.Goals as goal

pub walk_on-requires : goal.walk_on-requires
walk_on-requires c = let t = tree_of c.args.program.now.program.root in record { walk = (t, start t, c.in_ok-walk.ensures.start (class_in c.args.classes.now)) }

pub returns : goal.returns
returns c = let t = tree_of c.args.program.now.program.root in record { walk = c.in_ok-walk_on.ensures.goes t (start t) (c.in_ok-walk.ensures.start (class_in c.args.classes.now)) }
