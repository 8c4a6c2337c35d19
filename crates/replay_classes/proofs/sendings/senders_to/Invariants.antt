use Rattle.std.proofs.Common.{◌≡◌, map, take}
use Rattle.asp_model.specs.Shapes.{reception_shape}
use Rattle.replay_classes.specs.Sendings.{logs_from}
use Rattle.replay_classes.proofs.sendings.senders_to.Given as goal

abbrev pub invariant-loop-sending : goal.invariant-loop-sending
invariant-loop-sending l = map reception_shape l.senders.items ≡ logs_from (take l.sending-index l.sendings) l.to l.class
