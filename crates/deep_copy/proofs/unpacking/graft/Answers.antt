use Rattle.std.proofs.Common.{◌++◌, length, length-append, map, drop, ◌∙◌, ap, arith}
use Rattle.code_table.specs.Cells.{CodedCell, CodedStore, coded, moved_coded, with_cell_at}
use Rattle.code_table.specs.Moves.{shift_of}
use Rattle.deep_copy.proofs.GraftLemmas.{grafted_moved}
use Rattle.deep_copy.proofs.unpacking.graft.Goals as goal

pub put_moved-requires : goal.put_moved-requires
put_moved-requires c =
    let others : CodedStore = map (moved_coded (shift_of c.args.shift)) (drop 1 c.args.cells.now.items) in
    record { within = omega (arith, c.requires.within, ap (λ (s : CodedStore). length s) c.in_ok-append.ensures.cells, length-append c.args.store.now.cells others) }

pub returns-clause-cells : goal.returns-clause-cells
returns-clause-cells c =
    let f = shift_of c.args.shift in
    let old : CodedStore = c.args.store.now.cells in
    let others : CodedStore = map (moved_coded f) (drop 1 c.args.cells.now.items) in
    let p = c.args.loc in
    c.in_default.ensures.cells ∙ ap (λ (s : CodedStore). with_cell_at s p (moved_coded f (coded c.view.result))) c.in_ok-append.ensures.cells
    ∙ ap (λ (x : CodedCell). with_cell_at (old ++ others) p (moved_coded f x)) c.view.ensures.view
    ∙ grafted_moved f old c.args.cells.now.items p c.requires.within c.requires.some
