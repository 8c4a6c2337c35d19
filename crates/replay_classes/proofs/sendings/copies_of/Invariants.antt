use Rattle.std.proofs.Common.{◌≡◌, take}
use Rattle.replay_classes.proofs.sendings.copies_of.Given as goal

abbrev pub invariant-loop-sending : goal.invariant-loop-sending
invariant-loop-sending l = l.copies.items ≡ take l.sending-index l.sendings
