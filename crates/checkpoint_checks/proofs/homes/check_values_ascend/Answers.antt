use Rattle.std.proofs.Common.{◌∙◌, arith}
use Rattle.std.specs.Option.{option_map}
use Rattle.asp_model.specs.Shapes.{future_shape}
use Rattle.checkpoint_checks.specs.Homes.{value_future}
use Rattle.checkpoint_checks.proofs.LoopLemmas.{ascend_more}
use Rattle.checkpoint_checks.proofs.homes.check_values_ascend.Goals as goal

pub loop-future-preserved : goal.loop-future-preserved
loop-future-preserved c =
    ascend_more c.args.values.now c.loop-future.future-index c.loop-future-item.result (omega arith) c.loop-future-item.is value_future (option_map (λ f. future_shape f.now) c.loop-future.last) c.in_ok-check_after.ensures.after
    ∙ c.loop-future.invariant
