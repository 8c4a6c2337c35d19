use Rattle.checkpoint_text.specs.Reading.{cell}
use Rattle.checkpoint_reading.specs.Cells.{cell_shape}
use Rattle.std.proofs.lemmas.Result.{err_from_is_err_and}
use Rattle.checkpoint_items.proofs.ListLemmas.{none_read, one_read, one_refused, all_read}
use Rattle.checkpoint_reading.proofs.cells.read_cells.Goals as goal

pub loop-init : goal.loop-init
loop-init c = rw c.new-cells.ensures.items (none_read cell cell_shape c.in_ok-count.count c.read_count.new.items)

pub loop-preserved : goal.loop-preserved
loop-preserved c =
    rw c.in_ok-push.ensures.items
    (one_read cell cell_shape c.in_ok-count.count c.read_count.new.items c.loop.counter c.loop.cells.items c.loop.items c.in_ok-read_cell.field-0 c.read_cell.new.items c.loop-test.true c.loop.invariant c.in_ok-read_cell.ensures.read)

pub returns-in_err-read_cell : goal.returns-in_err-read_cell
returns-in_err-read_cell c =
    let q = err_from_is_err_and c.from_residual-in_err-read_cell.result c.from_residual-in_err-read_cell.ensures.1 in
    rw (q.1, q.2)
    (record { read = one_refused cell cell_shape c.args.items.now c.in_ok-count.count c.read_count.new.items c.loop.counter c.loop.cells.items c.loop.items c.in_err-read_cell.field-0.0 c.in_ok-count.ensures.read c.loop-test.true c.loop.invariant c.in_err-read_cell.ensures.read })

pub returns : goal.returns
returns c = record { read = all_read cell cell_shape c.args.items.now c.in_ok-count.count c.read_count.new.items c.loop.counter c.loop.cells.items c.loop.items c.in_ok-count.ensures.read c.loop-test.false c.loop.invariant }
