use Rattle.std.proofs.Common.{List, ℕ, ◌∙◌, ap}
use Rattle.code_table.specs.declared.cells.Cell.{Cell}
use Rattle.code_table.specs.Cells.{all_coded}
use Rattle.code_table.specs.ColumnsView.{ColumnsView}
use Rattle.code_table.proofs.columns.Columns.copy.Goals as goal

pub returns : goal.returns
returns c =
    let ws = c.self.inside.words.items in
    record {
      items = ap (λ (l : List ℕ). all_coded l c.in_ok-cells.cells.items) (c.in_ok-words.ensures ∙ c.deref-2.ensures.value)
          ∙ c.in_ok-cells.ensures.copies.cells ws ∙ ap (λ (cs : List Cell). all_coded ws cs) c.deref.ensures.value ∙ ap (λ (v : ColumnsView). v.items) c.self.view_is;
    }
