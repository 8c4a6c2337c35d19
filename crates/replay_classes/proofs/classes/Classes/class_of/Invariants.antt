use Rattle.std.proofs.Common.{◌≡◌, drop}
use Rattle.replay_classes.specs.Classes.{class_among}
use Rattle.replay_classes.proofs.classes.Classes.class_of.Given as goal

abbrev pub invariant-loop-row : goal.invariant-loop-row
invariant-loop-row l = class_among l.self.rows.items l.label.text ≡ class_among (drop l.row-index l.row-items) l.label.text
