use Rattle.std.proofs.Common.{◌≡◌, ◌<◌, ◌++◌, ◌∷◌, [], ◌∙◌, List, length, map, sym, ap, subst, arith, rules}
use Rattle.std.proofs.lemmas.List.{map-append}
use Rattle.code_table.specs.declared.answer.Shown.{Shown}
use Rattle.code_table.specs.declared.cells.Cell.{Cell}
use Rattle.code_table.specs.Cells.{CodedCell, IsPlain, all_coded, coded, span_of}
use Rattle.code_table.specs.Columns.{AreLaid}
use Rattle.code_table.specs.Shown.{kept}
use Rattle.code_table.proofs.AnswerLemmas.{plain_at}
use Rattle.code_table.proofs.CodedLemmas.{take_cell}
use Rattle.code_table.proofs.ColumnLemmas.{coded_push, laid_push}
use Rattle.code_table.proofs.answer.list_of.Goals as goal

pub shown_cell-requires : goal.shown_cell-requires
shown_cell-requires c =
    let s = c.args.cells.now.items in
    let lt : c.loop-at.at < length s = omega arith in
    let plain = plain_at (length s) s c.loop-at.at c.requires.shown.cells lt in
    record { plain = subst IsPlain (sym c.view.ensures.view) plain }

pub loop-at-preserved : goal.loop-at-preserved
loop-at-preserved c =
    let s = c.args.cells.now.items in
    let lt : c.loop-at.at < length s = omega arith in
    let old = c.loop-at.words.items in
    let new = c.shown_cell.new.words.items in
    let cs = c.loop-at.shown.items in
    let x : Shown = c.in_ok-cell.cell in
    let is : CodedCell = coded c.view.result in
    let pushed : c.push.new.self.items ≡ cs ++ x ∷ [] = search rules in
    let keeps : map kept c.push.new.self.items ≡ map kept cs ++ kept x ∷ [] = ap (map kept) pushed
    ∙ map-append kept cs (x ∷ []) in
    let grown = c.shown_cell.ensures.grown in
    let fresh = c.in_ok-cell.ensures.cell in
    record {
      within = omega (arith, lt);
      laid = subst (λ (l : List Cell). AreLaid (length new) (map span_of l)) (sym keeps)
          (laid_push old new is (map kept cs) (kept x) c.loop-at.invariant.laid grown fresh);
      so_far = ap (all_coded new) keeps
          ∙ coded_push old new is (map kept cs) (kept x) c.loop-at.invariant.laid grown fresh
          ∙ (λ i. c.loop-at.invariant.so_far i ++ c.view.ensures.view i ∷ []) ∙ sym (take_cell s c.loop-at.at lt);
    }
