use Rattle.std.proofs.Common.{List, ◌∙◌, ◌++◌, ◌∷◌, [], length, map, sym, ap, subst}
use Rattle.code_table.specs.declared.cells.Cell.{Cell}
use Rattle.code_table.specs.Cells.{CodedCell, Group, all_coded, span_of}
use Rattle.code_table.specs.Columns.{AreLaid}
use Rattle.code_table.specs.ColumnsView.{ColumnsView}
use Rattle.code_table.proofs.ColumnLemmas.{coded_grown, coded_push, laid_push, on_error}
use Rattle.code_table.proofs.columns.Columns.push_group.Goals as goal

pub returns-in_err-cell-clause-err : goal.returns-in_err-cell-clause-err
returns-in_err-cell-clause-err c =
    let ws = c.self.inside.words.items in
    let cs = c.self.inside.cells.items in
    let new = c.group_in.new.words.items in
    on_error c.from_residual-in_err-cell.result
    (ap (λ (l : List Cell). all_coded new l) c.in_ok-reserve.ensures.items ∙ coded_grown ws new cs c.self.invariant c.group_in.ensures.grown ∙ ap (λ (v : ColumnsView). v.items) c.self.view_is)

pub invariant_of-self-2 : goal.invariant_of-self-2
invariant_of-self-2 c =
    let ws = c.self.inside.words.items in
    let cs = c.self.inside.cells.items in
    let new = c.group_in.new.words.items in
    let x : Cell = c.in_ok-cell.cell in
    let is : CodedCell = Group c.args.members.now in
    let items = c.push_reserved.ensures.items ∙ ap (λ (l : List Cell). l ++ x ∷ []) c.in_ok-reserve.ensures.items in
    subst (λ (l : List Cell). AreLaid (length new) (map span_of l)) (sym items) (laid_push ws new is cs x c.self.invariant c.group_in.ensures.grown c.in_ok-cell.ensures.cell)

pub returns-clause-items : goal.returns-clause-items
returns-clause-items c =
    let ws = c.self.inside.words.items in
    let cs = c.self.inside.cells.items in
    let new = c.group_in.new.words.items in
    let x : Cell = c.in_ok-cell.cell in
    let is : CodedCell = Group c.args.members.now in
    let items = c.push_reserved.ensures.items ∙ ap (λ (l : List Cell). l ++ x ∷ []) c.in_ok-reserve.ensures.items in
    ap (λ (l : List Cell). all_coded new l) items ∙ coded_push ws new is cs x c.self.invariant c.group_in.ensures.grown c.in_ok-cell.ensures.cell
    ∙ ap (λ (v : ColumnsView). v.items ++ is ∷ []) c.self.view_is
