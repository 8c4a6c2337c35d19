use Rattle.checkpoint_text.specs.Reading.{service}
use Rattle.checkpoint_parts.specs.Shapes.{service_shape}
use Rattle.std.proofs.lemmas.Result.{err_from_is_err_and}
use Rattle.checkpoint_items.proofs.ListLemmas.{none_read, one_read, one_refused, all_read}
use Rattle.checkpoint_files.proofs.activities.read_services.Goals as goal

pub loop-init : goal.loop-init
loop-init c = rw c.new-services.ensures.items (none_read service service_shape c.in_ok-count.count
    c.read_count.new.items)

pub loop-preserved : goal.loop-preserved
loop-preserved c =
    rw c.in_ok-push.ensures.items
    (one_read service service_shape c.in_ok-count.count c.read_count.new.items c.loop.counter c.loop.services.items
    c.loop.items c.in_ok-read_suspended.field-0 c.read_suspended.new.items c.loop-test.true c.loop.invariant
    c.in_ok-read_suspended.ensures.read)

pub returns-in_err-read_suspended : goal.returns-in_err-read_suspended
returns-in_err-read_suspended c =
    let q = err_from_is_err_and c.from_residual-in_err-read_suspended.result
    c.from_residual-in_err-read_suspended.ensures.1 in
    rw (q.1, q.2)
    (record {
      read = one_refused service service_shape c.args.items.now c.in_ok-count.count c.read_count.new.items
          c.loop.counter c.loop.services.items c.loop.items c.in_err-read_suspended.field-0.0 c.in_ok-count.ensures.read
          c.loop-test.true c.loop.invariant c.in_err-read_suspended.ensures.read;
    })

pub returns : goal.returns
returns c = record {
  read = all_read service service_shape c.args.items.now c.in_ok-count.count c.read_count.new.items
      c.loop.counter c.loop.services.items c.loop.items c.in_ok-count.ensures.read c.loop-test.false c.loop.invariant;
}
