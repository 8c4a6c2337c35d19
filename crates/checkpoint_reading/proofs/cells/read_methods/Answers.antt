use Rattle.checkpoint_text.specs.Reading.{method}
use Rattle.checkpoint_reading.specs.Cells.{method_shape}
use Rattle.std.proofs.lemmas.Result.{err_from_is_err_and}
use Rattle.checkpoint_items.proofs.ListLemmas.{none_read, one_read, one_refused, all_read}
use Rattle.checkpoint_reading.proofs.cells.read_methods.Goals as goal

pub loop-init : goal.loop-init
loop-init c = rw c.new-methods.ensures.items (none_read method method_shape c.in_ok-count.count c.read_count.new.items)

pub loop-preserved : goal.loop-preserved
loop-preserved c =
    rw c.in_ok-push.ensures.items
    (one_read method method_shape c.in_ok-count.count c.read_count.new.items c.loop.counter c.loop.methods.items c.loop.items c.in_ok-read_method.field-0 c.read_method.new.items c.loop-test.true c.loop.invariant c.in_ok-read_method.ensures.read)

pub returns-in_err-read_method : goal.returns-in_err-read_method
returns-in_err-read_method c =
    let q = err_from_is_err_and c.from_residual-in_err-read_method.result c.from_residual-in_err-read_method.ensures.1 in
    rw (q.1, q.2)
    (record { read = one_refused method method_shape c.args.items.now c.in_ok-count.count c.read_count.new.items c.loop.counter c.loop.methods.items c.loop.items c.in_err-read_method.field-0.0 c.in_ok-count.ensures.read c.loop-test.true c.loop.invariant c.in_err-read_method.ensures.read })

pub returns : goal.returns
returns c = record { read = all_read method method_shape c.args.items.now c.in_ok-count.count c.read_count.new.items c.loop.counter c.loop.methods.items c.loop.items c.in_ok-count.ensures.read c.loop-test.false c.loop.invariant }
