use Rattle.std.proofs.Common.{take}
use Rattle.replay_classes.proofs.SendingLemmas.{AreRows}
use Rattle.replay_classes.proofs.sendings.rows_of.Given as goal

abbrev pub invariant-loop-sending : goal.invariant-loop-sending
invariant-loop-sending l = AreRows l.sendings (take l.sending-index l.sendings) l.rows.items
