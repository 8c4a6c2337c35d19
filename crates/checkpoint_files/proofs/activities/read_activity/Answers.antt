use Rattle.std.proofs.Common.{codes}
use Rattle.std.proofs.lemmas.Result.{err_from_is_err_and}
use Rattle.checkpoint_text.specs.Reading.{activity}
use Rattle.checkpoint_parts.specs.Shapes.{activity_shape}
use Rattle.checkpoint_items.proofs.LineLemmas.{line_told, line_refused, line_left, line_other}
use Rattle.checkpoint_files.proofs.activities.read_activity.Goals as goal

pub returns-in_err-items : goal.returns-in_err-items
returns-in_err-items c =
    let q = err_from_is_err_and c.from_residual.result c.from_residual.ensures.1 in
    rw (q.1, q.2)
    (record {
      activity = line_other (codes "activity") activity c.args.line.now c.as_slice.result.now
          c.in_err-items.field-0.0 c.as_slice.ensures c.in_err-items.ensures.behind;
    })

pub returns-in_err-activity : goal.returns-in_err-activity
returns-in_err-activity c =
    let q = err_from_is_err_and c.from_residual-in_err-activity.result c.from_residual-in_err-activity.ensures.1 in
    rw (q.1, q.2)
    (record {
      activity = line_refused (codes "activity") activity c.args.line.now c.as_slice.result.now
          c.in_ok-items.items c.in_err-activity.field-0.0 c.as_slice.ensures c.in_ok-items.ensures.behind
          c.in_err-activity.ensures.read;
    })

pub returns-in_err-end_line : goal.returns-in_err-end_line
returns-in_err-end_line c =
    let q = err_from_is_err_and c.from_residual-in_err-end_line.result c.from_residual-in_err-end_line.ensures.1 in
    rw (q.1, q.2)
    (record {
      activity = line_left (codes "activity") activity c.args.line.now c.as_slice.result.now
          c.in_ok-items.items c.read_parts_of_activity.new.items
          (activity_shape c.in_ok-activity.activity) c.in_err-end_line.field-0.0 c.as_slice.ensures
          c.in_ok-items.ensures.behind c.in_ok-activity.ensures.read c.in_err-end_line.ensures.over;
    })

pub returns : goal.returns
returns c = record {
  activity = line_told (codes "activity") activity c.args.line.now c.as_slice.result.now c.in_ok-items.items
      c.read_parts_of_activity.new.items (activity_shape c.in_ok-activity.activity) c.in_ok-end_line.field-0
      c.as_slice.ensures c.in_ok-items.ensures.behind c.in_ok-activity.ensures.read c.in_ok-end_line.ensures.over;
}
