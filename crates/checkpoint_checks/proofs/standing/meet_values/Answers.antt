use Rattle.std.proofs.Common.{◌∙◌, arith}
use Rattle.checkpoint_checks.specs.Maps.{has_in}
use Rattle.checkpoint_checks.specs.Homes.{value_future}
use Rattle.checkpoint_checks.proofs.LoopLemmas.{fresh_more, met_more}
use Rattle.checkpoint_checks.proofs.standing.meet_values.Goals as goal

pub loop-future-preserved : goal.loop-future-preserved
loop-future-preserved c =
    let set = has_in c.loop-future.met in
    let next = has_in c.meet.new.met in
    let i = c.loop-future.future-index in
    let x = c.loop-future-item.result in (
      met_more c.args.values.now i x (omega arith) c.loop-future-item.is value_future set next c.in_ok-meet.ensures.met ∙ c.loop-future.invariant.0,
      fresh_more c.args.values.now i x (omega arith) c.loop-future-item.is value_future set next c.in_ok-meet.ensures.met c.in_ok-meet.ensures.fresh ∙ c.loop-future.invariant.1,
    )
