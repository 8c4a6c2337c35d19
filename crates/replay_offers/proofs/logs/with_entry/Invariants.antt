use Rattle.std.proofs.Common.{◌≡◌, List, map, take}
use Rattle.asp_model.specs.Configuration.{ReceptionShape}
use Rattle.asp_model.specs.Names.{Name}
use Rattle.asp_model.specs.Shapes.{reception_shape}
use Rattle.replay_offers.specs.Logs.{each_entered}
use Rattle.replay_offers.proofs.logs.with_entry.Given as goal

abbrev pub invariant-loop-entry : goal.invariant-loop-entry
invariant-loop-entry l = map {B = Name × List ReceptionShape} (λ x. (x.0, map reception_shape x.1.items)) l.entries.items
    ≡ each_entered l.to (reception_shape l.more) (map {B = Name × List ReceptionShape} (λ x. (x.0, map reception_shape x.1.items)) (take l.entry-index l.entry-items))
