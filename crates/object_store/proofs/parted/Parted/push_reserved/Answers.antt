use Rattle.std.proofs.Common.{◌++◌, ◌∷◌, [], ap, ◌∙◌}
use Rattle.code_table.specs.Cells.{CodedCell, bare}
use Rattle.code_table.specs.ColumnsView.{ColumnsView}
use Rattle.object_store.specs.Parts.{parts_cells}
use Rattle.object_store.proofs.PartLemmas.{pushed}
use Rattle.object_store.proofs.parted.Parted.push_reserved.Goals as goal

pub returns-clause-items : goal.returns-clause-items
returns-clause-items c =
    let x : CodedCell = bare c.args.cell in
    pushed (parts_cells c.self.inside.parts.items) c.self.inside.columns.items c.push_reserved.new.self.items x c.push_reserved.ensures.items ∙ ap (λ (v : ColumnsView). v.items ++ x ∷ []) c.self.view_is
