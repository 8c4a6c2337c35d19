use Rattle.std.proofs.Common.{◌∙◌, arith}
use Rattle.checkpoint_checks.specs.Maps.{has_in}
use Rattle.checkpoint_checks.specs.Standing.{request_future}
use Rattle.checkpoint_checks.proofs.LoopLemmas.{fresh_more, met_more}
use Rattle.checkpoint_checks.proofs.standing.meet_requests.Goals as goal

pub loop-request-preserved : goal.loop-request-preserved
loop-request-preserved c =
    let set = has_in c.loop-request.met in
    let next = has_in c.meet.new.met in
    let i = c.loop-request.request-index in
    let x = c.request-item.result in (
      met_more c.args.requests.now i x (omega arith) c.request-item.is request_future set next c.in_ok-meet.ensures.met ∙ c.loop-request.invariant.0,
      fresh_more c.args.requests.now i x (omega arith) c.request-item.is request_future set next c.in_ok-meet.ensures.met c.in_ok-meet.ensures.fresh ∙ c.loop-request.invariant.1,
    )
