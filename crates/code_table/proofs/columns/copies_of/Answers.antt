use Rattle.std.proofs.Common.{◌≡◌, ◌<◌, ◌+◌, ◌++◌, ◌∷◌, [], ◌∙◌, List, length, take, sym, ap, subst, arith, rules}
use Rattle.std.proofs.lemmas.List.{take_more}
use Rattle.code_table.specs.declared.cells.Cell.{Cell}
use Rattle.code_table.specs.Columns.{AreCopies}
use Rattle.code_table.proofs.ColumnLemmas.{copies_more}
use Rattle.code_table.proofs.columns.copies_of.Goals as goal

pub loop-cell-preserved : goal.loop-cell-preserved
loop-cell-preserved c =
    let cs = c.args.cells.now in
    let i = c.loop-cell.cell-index in
    let x : Cell = c.cell-item.result in
    let lt : i < length cs = omega arith in
    let more : take (i + 1) cs ≡ take i cs ++ x ∷ [] = take_more cs i x lt ∙ ap (λ (y : Cell). take i cs ++ y ∷ []) (sym c.cell-item.is) in
    let pushed : c.push.new.self.items ≡ c.loop-cell.copies.items ++ c.in_ok-copy.field-0 ∷ [] = search rules in
    subst (λ (l : List Cell). AreCopies l c.push.new.self.items) (sym more) (subst (λ (l : List Cell). AreCopies (take i cs ++ x ∷ []) l) (sym pushed)
    (copies_more (take i cs) c.loop-cell.copies.items x c.in_ok-copy.field-0 c.loop-cell.invariant c.in_ok-copy.ensures.cell c.in_ok-copy.ensures.span))
