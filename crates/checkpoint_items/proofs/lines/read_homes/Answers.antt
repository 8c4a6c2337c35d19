use Rattle.std.proofs.Common.{codes, map}
use Rattle.std.proofs.lemmas.Result.{err_from_is_err_and}
use Rattle.checkpoint_text.specs.Reading.{both, future, list_of, name}
use Rattle.checkpoint_items.specs.Lines.{home_shape}
use Rattle.checkpoint_items.proofs.LineLemmas.{line_told, line_refused, line_left, line_other}
use Rattle.checkpoint_items.proofs.lines.read_homes.Goals as goal

pub returns-in_err-items : goal.returns-in_err-items
returns-in_err-items c =
    let q = err_from_is_err_and c.from_residual.result c.from_residual.ensures.1 in
    rw (q.1, q.2)
    (record { homes = line_other (codes "homes") (list_of (both future name)) c.args.line.now c.as_slice.result.now c.in_err-items.field-0.0 c.as_slice.ensures c.in_err-items.ensures.behind })

pub returns-in_err-homes : goal.returns-in_err-homes
returns-in_err-homes c =
    let q = err_from_is_err_and c.from_residual-in_err-homes.result c.from_residual-in_err-homes.ensures.1 in
    rw (q.1, q.2)
    (record { homes = line_refused (codes "homes") (list_of (both future name)) c.args.line.now c.as_slice.result.now c.in_ok-items.items c.in_err-homes.field-0.0 c.as_slice.ensures c.in_ok-items.ensures.behind c.in_err-homes.ensures.read })

pub returns-in_err-end_line : goal.returns-in_err-end_line
returns-in_err-end_line c =
    let q = err_from_is_err_and c.from_residual-in_err-end_line.result c.from_residual-in_err-end_line.ensures.1 in
    rw (q.1, q.2)
    (record { homes = line_left (codes "homes") (list_of (both future name)) c.args.line.now c.as_slice.result.now c.in_ok-items.items c.read_all_homes.new.items (map home_shape c.in_ok-homes.homes.items) c.in_err-end_line.field-0.0 c.as_slice.ensures c.in_ok-items.ensures.behind c.in_ok-homes.ensures.read c.in_err-end_line.ensures.over })

pub returns : goal.returns
returns c = record {
  homes = line_told (codes "homes") (list_of (both future name)) c.args.line.now c.as_slice.result.now c.in_ok-items.items c.read_all_homes.new.items (map home_shape c.in_ok-homes.homes.items) c.in_ok-end_line.field-0 c.as_slice.ensures c.in_ok-items.ensures.behind c.in_ok-homes.ensures.read c.in_ok-end_line.ensures.over;
}
