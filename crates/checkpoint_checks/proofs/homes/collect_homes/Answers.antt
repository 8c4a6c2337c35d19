use Rattle.std.proofs.Common.{◌∙◌, arith}
use Rattle.checkpoint_items.specs.Lines.{home_shape}
use Rattle.checkpoint_checks.specs.Maps.{home_in}
use Rattle.checkpoint_checks.proofs.LoopLemmas.{homes_more}
use Rattle.checkpoint_checks.proofs.homes.collect_homes.Goals as goal

pub loop-future-preserved : goal.loop-future-preserved
loop-future-preserved c =
    homes_more c.args.pairs.now c.loop-future.future-index c.loop-future-item.result (omega arith) c.loop-future-item.is home_shape (home_in c.loop-future.homes) (home_in c.add.new.homes) c.in_ok-add.ensures.homes
    ∙ c.loop-future.invariant
