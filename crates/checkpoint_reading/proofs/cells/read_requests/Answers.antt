use Rattle.checkpoint_text.specs.Reading.{request}
use Rattle.checkpoint_reading.specs.Cells.{request_shape}
use Rattle.std.proofs.lemmas.Result.{err_from_is_err_and}
use Rattle.checkpoint_items.proofs.ListLemmas.{none_read, one_read, one_refused, all_read}
use Rattle.checkpoint_reading.proofs.cells.read_requests.Goals as goal

pub loop-init : goal.loop-init
loop-init c = rw c.new-requests.ensures.items (none_read request request_shape c.in_ok-count.count c.read_count.new.items)

pub loop-preserved : goal.loop-preserved
loop-preserved c =
    rw c.in_ok-push.ensures.items
    (one_read request request_shape c.in_ok-count.count c.read_count.new.items c.loop.counter c.loop.requests.items c.loop.items c.in_ok-read_request.field-0 c.read_request.new.items c.loop-test.true c.loop.invariant c.in_ok-read_request.ensures.read)

pub returns-in_err-read_request : goal.returns-in_err-read_request
returns-in_err-read_request c =
    let q = err_from_is_err_and c.from_residual-in_err-read_request.result c.from_residual-in_err-read_request.ensures.1 in
    rw (q.1, q.2)
    (record { read = one_refused request request_shape c.args.items.now c.in_ok-count.count c.read_count.new.items c.loop.counter c.loop.requests.items c.loop.items c.in_err-read_request.field-0.0 c.in_ok-count.ensures.read c.loop-test.true c.loop.invariant c.in_err-read_request.ensures.read })

pub returns : goal.returns
returns c = record { read = all_read request request_shape c.args.items.now c.in_ok-count.count c.read_count.new.items c.loop.counter c.loop.requests.items c.loop.items c.in_ok-count.ensures.read c.loop-test.false c.loop.invariant }
