use Rattle.checkpoint_text.specs.Reading.{both, future, parcel}
use Rattle.checkpoint_reading.specs.Cells.{value_shape}
use Rattle.std.proofs.lemmas.Result.{err_from_is_err_and}
use Rattle.checkpoint_items.proofs.ListLemmas.{none_read, one_read, one_refused, all_read}
use Rattle.checkpoint_reading.proofs.cells.read_all_values.Goals as goal

pub loop-init : goal.loop-init
loop-init c = rw c.new-values.ensures.items (none_read (both future parcel) value_shape c.in_ok-count.count c.read_count.new.items)

pub loop-preserved : goal.loop-preserved
loop-preserved c =
    rw c.in_ok-push.ensures.items
    (one_read (both future parcel) value_shape c.in_ok-count.count c.read_count.new.items c.loop.counter c.loop.values.items c.loop.items c.in_ok-read_value.field-0 c.read_value.new.items c.loop-test.true c.loop.invariant c.in_ok-read_value.ensures.read)

pub returns-in_err-read_value : goal.returns-in_err-read_value
returns-in_err-read_value c =
    let q = err_from_is_err_and c.from_residual-in_err-read_value.result c.from_residual-in_err-read_value.ensures.1 in
    rw (q.1, q.2)
    (record { read = one_refused (both future parcel) value_shape c.args.items.now c.in_ok-count.count c.read_count.new.items c.loop.counter c.loop.values.items c.loop.items c.in_err-read_value.field-0.0 c.in_ok-count.ensures.read c.loop-test.true c.loop.invariant c.in_err-read_value.ensures.read })

pub returns : goal.returns
returns c = record { read = all_read (both future parcel) value_shape c.args.items.now c.in_ok-count.count c.read_count.new.items c.loop.counter c.loop.values.items c.loop.items c.in_ok-count.ensures.read c.loop-test.false c.loop.invariant }
