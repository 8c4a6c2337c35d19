use Rattle.std.proofs.Common.{◌≡◌, List, map, take}
use Rattle.asp_model.specs.Configuration.{ReceptionShape}
use Rattle.asp_model.specs.Names.{Name}
use Rattle.asp_model.specs.Shapes.{activity_shape, reception_shape}
use Rattle.replay_one.proofs.listed.lists_in.Given as goal

abbrev pub invariant-loop-activity : goal.invariant-loop-activity
invariant-loop-activity l = map {B = Name × List ReceptionShape} (λ x. (x.0, map reception_shape x.1.items)) l.entries.items ≡ map (λ a. (a.name, a.senders)) (map activity_shape (take l.activity-index l.activity-items))
