use Rattle.std.proofs.Common.{List, ◌≡◌, ◌≤◌, ◌<◌, ◌∙◌, ◌++◌, ◌∷◌, [], length, map, get_or, sym, ap, subst, arith}
use Rattle.code_table.specs.declared.cells.Cell.{Cell}
use Rattle.code_table.specs.Cells.{CodedCell, all_coded, cell_at, coded_in, end_of, span_of}
use Rattle.code_table.specs.Columns.{AreLaid}
use Rattle.code_table.specs.ColumnsView.{ColumnsView}
use Rattle.code_table.proofs.ColumnLemmas.{at_place, coded_grown, coded_push, laid_push, on_error, place_within, within_at}
use Rattle.code_table.proofs.columns.Columns.push_equal.Goals as goal

pub equal_in-requires : goal.equal_in-requires
equal_in-requires c =
    let ws = c.self.inside.words.items in
    let cs = c.self.inside.cells.items in
    let p = c.args.at in
    let d = c.index.result.now in
    let lt : p < length cs = place_within ws cs c.args.self.now.items p (ap (λ (v : ColumnsView). v.items) c.self.view_is) c.requires.within in
    let at : d ≡ get_or cs p d = c.index.ensures ∙ ap (λ (l : List Cell). get_or l p d) c.in_ok-reserve.ensures.items in
    let le : end_of (get_or cs p d) ≤ length ws = within_at (length ws) cs p d lt c.self.invariant in
    record { within = omega (arith, ap end_of at, le) }

pub returns-in_err-cell-clause-err : goal.returns-in_err-cell-clause-err
returns-in_err-cell-clause-err c =
    let ws = c.self.inside.words.items in
    let cs = c.self.inside.cells.items in
    let new = c.equal_in.new.words.items in
    on_error c.from_residual-in_err-cell.result
    (ap (λ (l : List Cell). all_coded new l) c.in_ok-reserve.ensures.items ∙ coded_grown ws new cs c.self.invariant c.equal_in.ensures.grown ∙ ap (λ (v : ColumnsView). v.items) c.self.view_is)

pub invariant_of-self-2 : goal.invariant_of-self-2
invariant_of-self-2 c =
    let ws = c.self.inside.words.items in
    let cs = c.self.inside.cells.items in
    let new = c.equal_in.new.words.items in
    let x : Cell = c.in_ok-cell.cell in
    let is : CodedCell = coded_in ws c.index.result.now in
    let items = c.push_reserved.ensures.items ∙ ap (λ (l : List Cell). l ++ x ∷ []) c.in_ok-reserve.ensures.items in
    subst (λ (l : List Cell). AreLaid (length new) (map span_of l)) (sym items) (laid_push ws new is cs x c.self.invariant c.equal_in.ensures.grown c.in_ok-cell.ensures.cell)

pub returns-clause-items : goal.returns-clause-items
returns-clause-items c =
    let ws = c.self.inside.words.items in
    let cs = c.self.inside.cells.items in
    let new = c.equal_in.new.words.items in
    let p = c.args.at in
    let d = c.index.result.now in
    let x : Cell = c.in_ok-cell.cell in
    let is : CodedCell = coded_in ws d in
    let lt : p < length cs = place_within ws cs c.args.self.now.items p (ap (λ (v : ColumnsView). v.items) c.self.view_is) c.requires.within in
    let at : d ≡ get_or cs p d = c.index.ensures ∙ ap (λ (l : List Cell). get_or l p d) c.in_ok-reserve.ensures.items in
    let items = c.push_reserved.ensures.items ∙ ap (λ (l : List Cell). l ++ x ∷ []) c.in_ok-reserve.ensures.items in
    ap (λ (l : List Cell). all_coded new l) items ∙ coded_push ws new is cs x c.self.invariant c.equal_in.ensures.grown c.in_ok-cell.ensures.cell
    ∙ ap (λ (y : CodedCell). all_coded ws cs ++ y ∷ []) (ap (coded_in ws) at ∙ sym (at_place ws cs p d lt))
    ∙ ap (λ (v : ColumnsView). v.items ++ cell_at v.items p ∷ []) c.self.view_is
