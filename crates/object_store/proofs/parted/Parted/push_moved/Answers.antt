use Rattle.std.proofs.Common.{◌++◌, ◌∷◌, [], ap, ◌∙◌}
use Rattle.code_table.specs.Cells.{CodedCell, CodedStore, coded, moved_coded}
use Rattle.code_table.specs.ColumnsView.{ColumnsView}
use Rattle.code_table.specs.Moves.{move_of}
use Rattle.code_table.proofs.ColumnLemmas.{on_error}
use Rattle.object_store.specs.Parts.{parts_cells}
use Rattle.object_store.proofs.PartLemmas.{pushed}
use Rattle.object_store.proofs.parted.Parted.push_moved.Goals as goal

pub returns-in_err-push_moved-clause-err : goal.returns-in_err-push_moved-clause-err
returns-in_err-push_moved-clause-err c =
    on_error c.from_residual-in_err-push_moved.result
    (ap (λ (s : CodedStore). parts_cells c.self.inside.parts.items ++ s) c.in_err-push_moved.ensures.err ∙ ap (λ (v : ColumnsView). v.items) c.self.view_is ∙ c.in_ok-reserve.ensures.items)

pub returns-clause-items : goal.returns-clause-items
returns-clause-items c =
    let x : CodedCell = moved_coded (move_of c.args.moves.now) (coded c.args.view) in
    pushed (parts_cells c.self.inside.parts.items) c.self.inside.columns.items c.push_moved.new.self.items x c.in_ok-push_moved.ensures.items
    ∙ ap (λ (v : ColumnsView). v.items ++ x ∷ []) c.self.view_is ∙ ap (λ (s : CodedStore). s ++ x ∷ []) c.in_ok-reserve.ensures.items
