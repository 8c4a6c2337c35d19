use Rattle.std.proofs.Common.{◌∙◌, arith}
use Rattle.std.specs.Prelude.{string_bytes}
use Rattle.checkpoint_text.proofs.WritingLemmas.{item_more}
use Rattle.frozen_runs.specs.Activities.{request_piece}
use Rattle.frozen_runs.proofs.activities.put_requests.Goals as goal

pub loop-request-preserved : goal.loop-request-preserved
loop-request-preserved c =
    item_more request_piece c.args.requests.now c.loop-request.request-index c.request-item.result (string_bytes c.loop-request.text) (string_bytes c.put_request.new.text) (omega (arith, c.loop-request-test.true)) c.request-item.is c.in_ok-put_request.ensures.adds
    ∙ c.loop-request.invariant
