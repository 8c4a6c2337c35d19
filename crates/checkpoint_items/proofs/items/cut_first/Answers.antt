use Rattle.std.proofs.Common.{arith}
use Rattle.checkpoint_items.proofs.ItemLemmas.{begun}
use Rattle.checkpoint_items.proofs.items.cut_first.Goals as goal

pub loop-i-init : goal.loop-i-init
loop-i-init c = begun 32 c.args.text.now
