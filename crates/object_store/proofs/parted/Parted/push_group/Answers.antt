use Rattle.std.proofs.Common.{◌++◌, ◌∷◌, [], ap, ◌∙◌}
use Rattle.code_table.specs.Cells.{CodedCell, CodedStore, Group}
use Rattle.code_table.specs.ColumnsView.{ColumnsView}
use Rattle.code_table.proofs.ColumnLemmas.{on_error}
use Rattle.object_store.specs.Parts.{parts_cells}
use Rattle.object_store.proofs.PartLemmas.{pushed}
use Rattle.object_store.proofs.parted.Parted.push_group.Goals as goal

pub returns-in_err-push_group-clause-err : goal.returns-in_err-push_group-clause-err
returns-in_err-push_group-clause-err c =
    on_error c.from_residual-in_err-push_group.result
    (ap (λ (s : CodedStore). parts_cells c.self.inside.parts.items ++ s) c.in_err-push_group.ensures.err ∙ ap (λ (v : ColumnsView). v.items) c.self.view_is ∙ c.in_ok-reserve.ensures.items)

pub returns-clause-items : goal.returns-clause-items
returns-clause-items c =
    let x : CodedCell = Group c.args.members.now in
    pushed (parts_cells c.self.inside.parts.items) c.self.inside.columns.items c.push_group.new.self.items x c.in_ok-push_group.ensures.items
    ∙ ap (λ (v : ColumnsView). v.items ++ x ∷ []) c.self.view_is ∙ ap (λ (s : CodedStore). s ++ x ∷ []) c.in_ok-reserve.ensures.items
