use Rattle.std.proofs.Common.{codes, map}
use Rattle.std.proofs.lemmas.Result.{err_from_is_err_and}
use Rattle.checkpoint_text.specs.Reading.{both, future, list_of, parcel}
use Rattle.checkpoint_reading.specs.Cells.{value_shape}
use Rattle.checkpoint_items.proofs.LineLemmas.{line_told, line_refused, line_left, line_other}
use Rattle.checkpoint_reading.proofs.cells.read_values.Goals as goal

pub returns-in_err-items : goal.returns-in_err-items
returns-in_err-items c =
    let q = err_from_is_err_and c.from_residual.result c.from_residual.ensures.1 in
    rw (q.1, q.2)
    (record { values = line_other (codes "filled") (list_of (both future parcel)) c.args.line.now c.as_slice.result.now c.in_err-items.field-0.0 c.as_slice.ensures c.in_err-items.ensures.behind })

pub returns-in_err-values : goal.returns-in_err-values
returns-in_err-values c =
    let q = err_from_is_err_and c.from_residual-in_err-values.result c.from_residual-in_err-values.ensures.1 in
    rw (q.1, q.2)
    (record { values = line_refused (codes "filled") (list_of (both future parcel)) c.args.line.now c.as_slice.result.now c.in_ok-items.items c.in_err-values.field-0.0 c.as_slice.ensures c.in_ok-items.ensures.behind c.in_err-values.ensures.read })

pub returns-in_err-end_line : goal.returns-in_err-end_line
returns-in_err-end_line c =
    let q = err_from_is_err_and c.from_residual-in_err-end_line.result c.from_residual-in_err-end_line.ensures.1 in
    rw (q.1, q.2)
    (record { values = line_left (codes "filled") (list_of (both future parcel)) c.args.line.now c.as_slice.result.now c.in_ok-items.items c.read_all_values.new.items (map value_shape c.in_ok-values.values.items) c.in_err-end_line.field-0.0 c.as_slice.ensures c.in_ok-items.ensures.behind c.in_ok-values.ensures.read c.in_err-end_line.ensures.over })

pub returns : goal.returns
returns c = record {
  values = line_told (codes "filled") (list_of (both future parcel)) c.args.line.now c.as_slice.result.now c.in_ok-items.items c.read_all_values.new.items (map value_shape c.in_ok-values.values.items) c.in_ok-end_line.field-0 c.as_slice.ensures c.in_ok-items.ensures.behind c.in_ok-values.ensures.read c.in_ok-end_line.ensures.over;
}
