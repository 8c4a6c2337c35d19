use Rattle.std.proofs.Common.{◌≡◌, ◌<◌, ◌≤◌, ◌∙◌, Some, None, length, get_or, sym, ap, subst, arith}
use Rattle.code_table.specs.Cells.{CodedCell, all_coded, cell_at, coded_in, end_of, with_cell_at, with_place_at, word_at}
use Rattle.code_table.specs.ColumnsView.{ColumnsView}
use Rattle.code_table.proofs.ColumnLemmas.{at_place, coded_placed, no_word, place_within, with_same, within_at, word_in, word_set}
use Rattle.code_table.proofs.columns.Columns.set_place.Goals as goal

pub index_mut-requires : goal.index_mut-requires
index_mut-requires c =
    let ws = c.self.inside.words.items in
    let cs = c.self.inside.cells.items in
    let p = c.args.at in
    let d = c.index.result.now in
    let lt : p < length cs = place_within ws cs c.args.self.now.items p (ap (λ (v : ColumnsView). v.items) c.self.view_is) c.requires.within in
    let le : end_of (get_or cs p d) ≤ length ws = within_at (length ws) cs p d lt c.self.invariant in
    let word : Some c.in-Some.word ≡ word_at c.args.index d = sym c.in-Some.is ∙ c.word.ensures.word in
    let here = word_in d c.args.index c.in-Some.word word in
    omega (arith, here.1, ap end_of c.index.ensures, le, c.self.inside.words.ok.0)

pub returns-in-Some-clause-items : goal.returns-in-Some-clause-items
returns-in-Some-clause-items c =
    let ws = c.self.inside.words.items in
    let cs = c.self.inside.cells.items in
    let p = c.args.at in
    let d = c.index.result.now in
    let w = c.in-Some.word in
    let i = c.args.index in
    let to = c.args.to in
    let lt : p < length cs = place_within ws cs c.args.self.now.items p (ap (λ (v : ColumnsView). v.items) c.self.view_is) c.requires.within in
    let word : Some w ≡ word_at i (get_or cs p d) = sym c.in-Some.is ∙ c.word.ensures.word ∙ ap (word_at i) c.index.ensures in
    coded_placed ws w to cs p d lt (word_in (get_or cs p d) i w word) c.self.invariant.apart
    ∙ ap (λ (x : CodedCell). with_cell_at (all_coded ws cs) p x) (word_set ws (get_or cs p d) i w to word ∙ ap (with_place_at i to) (sym (at_place ws cs p d lt)))
    ∙ ap (λ (v : ColumnsView). with_cell_at v.items p (with_place_at i to (cell_at v.items p))) c.self.view_is

pub returns-in_default-clause-items : goal.returns-in_default-clause-items
returns-in_default-clause-items c =
    let ws = c.self.inside.words.items in
    let cs = c.self.inside.cells.items in
    let p = c.args.at in
    let d = c.index.result.now in
    let i = c.args.index in
    let to = c.args.to in
    let s = c.args.self.now.items in
    let lt : p < length cs = place_within ws cs s p (ap (λ (v : ColumnsView). v.items) c.self.view_is) c.requires.within in
    let word : None ≡ word_at i (get_or cs p d) = sym c.in_default.is ∙ c.word.ensures.word ∙ ap (word_at i) c.index.ensures in
    let here : coded_in ws (get_or cs p d) ≡ cell_at s p = sym (at_place ws cs p d lt) ∙ ap (λ (v : ColumnsView). cell_at v.items p) c.self.view_is in
    sym (ap (λ (x : CodedCell). with_cell_at s p x) (subst (λ (x : CodedCell). with_place_at i to x ≡ x) here (no_word ws (get_or cs p d) i to word)) ∙ with_same s p)
