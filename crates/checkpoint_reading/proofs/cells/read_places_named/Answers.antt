use Rattle.checkpoint_text.specs.Reading.{field}
use Rattle.checkpoint_reading.specs.Cells.{place_field}
use Rattle.std.proofs.lemmas.Result.{err_from_is_err_and}
use Rattle.checkpoint_items.proofs.ListLemmas.{none_read, one_read, one_refused, all_read}
use Rattle.checkpoint_reading.proofs.cells.read_places_named.Goals as goal

pub loop-init : goal.loop-init
loop-init c = rw c.new-fields.ensures.items (none_read field place_field c.in_ok-count.count c.read_count.new.items)

pub loop-preserved : goal.loop-preserved
loop-preserved c =
    rw c.in_ok-push.ensures.items
    (one_read field place_field c.in_ok-count.count c.read_count.new.items c.loop.counter c.loop.fields.items c.loop.items c.in_ok-read_place_named.field-0 c.read_place_named.new.items c.loop-test.true c.loop.invariant c.in_ok-read_place_named.ensures.read)

pub returns-in_err-read_place_named : goal.returns-in_err-read_place_named
returns-in_err-read_place_named c =
    let q = err_from_is_err_and c.from_residual-in_err-read_place_named.result c.from_residual-in_err-read_place_named.ensures.1 in
    rw (q.1, q.2)
    (record { read = one_refused field place_field c.args.items.now c.in_ok-count.count c.read_count.new.items c.loop.counter c.loop.fields.items c.loop.items c.in_err-read_place_named.field-0.0 c.in_ok-count.ensures.read c.loop-test.true c.loop.invariant c.in_err-read_place_named.ensures.read })

pub returns : goal.returns
returns c = record { read = all_read field place_field c.args.items.now c.in_ok-count.count c.read_count.new.items c.loop.counter c.loop.fields.items c.loop.items c.in_ok-count.ensures.read c.loop-test.false c.loop.invariant }
