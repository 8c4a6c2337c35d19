use Rattle.std.proofs.Common.{map, take}
use Rattle.asp_model.specs.Configuration.{ReceptionShape}
use Rattle.asp_model.specs.Shapes.{lists_shape}
use Rattle.replay_offers.specs.Entries.{HasEntry}
use Rattle.replay_offers.specs.Logs.{each_entered}
use Rattle.replay_offers.specs.Offered.{HasEntered}
use Rattle.replay_offers.proofs.offers.with_each.Given as goal

abbrev pub invariant-loop-entry : goal.invariant-loop-entry
invariant-loop-entry l = (e : ReceptionShape) → HasEntry (take l.entry-index l.entry-items) e
    → HasEntered (map lists_shape l.offers.items) (each_entered l.to e (lists_shape l.held.lists))
