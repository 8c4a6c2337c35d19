use Rattle.std.proofs.Common.{List, ◌<◌, ◌+◌, ◌∙◌, length, map, sym, ap, subst}
use Rattle.code_table.specs.declared.cells.Cell.{Cell}
use Rattle.code_table.specs.Cells.{all_coded, span_of}
use Rattle.code_table.specs.Columns.{AreLaid}
use Rattle.code_table.specs.ColumnsView.{ColumnsView}
use Rattle.code_table.proofs.ColumnLemmas.{coded_swapped, laid_swapped, place_within}
use Rattle.code_table.proofs.columns.Columns.move_last_to.Goals as goal

pub invariant_of-self : goal.invariant_of-self
invariant_of-self c =
    let ws = c.self.inside.words.items in
    let cs = c.self.inside.cells.items in
    let lt : c.args.at + 1 < length cs = place_within ws cs c.args.self.now.items (c.args.at + 1) (ap (λ (v : ColumnsView). v.items) c.self.view_is) c.requires.within in
    subst (λ (ds : List Cell). AreLaid (length ws) (map span_of ds)) (sym c.swap_remove.ensures.items) (laid_swapped (length ws) cs c.args.at c.swap_remove.result lt c.self.invariant)

pub returns-clause-items : goal.returns-clause-items
returns-clause-items c =
    let ws = c.self.inside.words.items in
    let cs = c.self.inside.cells.items in
    let items = ap (λ (v : ColumnsView). v.items) c.self.view_is in
    let lt : c.args.at + 1 < length cs = place_within ws cs c.args.self.now.items (c.args.at + 1) items c.requires.within in
    ap (all_coded ws) c.swap_remove.ensures.items ∙ coded_swapped ws cs c.args.self.now.items c.args.at c.swap_remove.result items lt
