use Rattle.asp_model.specs.Shapes.{reception_shape}
use Rattle.checkpoint_text.specs.Reading.{reception}
use Rattle.std.proofs.lemmas.Result.{err_from_is_err_and}
use Rattle.checkpoint_items.proofs.ListLemmas.{none_read, one_read, one_refused, all_read}
use Rattle.checkpoint_files.proofs.activities.read_log.Goals as goal

pub loop-init : goal.loop-init
loop-init c = rw c.new-log.ensures.items (none_read reception reception_shape c.in_ok-count.count
    c.read_count.new.items)

pub loop-preserved : goal.loop-preserved
loop-preserved c =
    rw c.in_ok-push.ensures.items
    (one_read reception reception_shape c.in_ok-count.count c.read_count.new.items c.loop.counter c.loop.log.items
    c.loop.items c.in_ok-read_reception.field-0 c.read_reception.new.items c.loop-test.true c.loop.invariant
    c.in_ok-read_reception.ensures.read)

pub returns-in_err-read_reception : goal.returns-in_err-read_reception
returns-in_err-read_reception c =
    let q = err_from_is_err_and c.from_residual-in_err-read_reception.result
    c.from_residual-in_err-read_reception.ensures.1 in
    rw (q.1, q.2)
    (record {
      read = one_refused reception reception_shape c.args.items.now c.in_ok-count.count c.read_count.new.items
          c.loop.counter c.loop.log.items c.loop.items c.in_err-read_reception.field-0.0 c.in_ok-count.ensures.read
          c.loop-test.true c.loop.invariant c.in_err-read_reception.ensures.read;
    })

pub returns : goal.returns
returns c = record {
  read = all_read reception reception_shape c.args.items.now c.in_ok-count.count
      c.read_count.new.items c.loop.counter c.loop.log.items c.loop.items c.in_ok-count.ensures.read c.loop-test.false
      c.loop.invariant;
}
