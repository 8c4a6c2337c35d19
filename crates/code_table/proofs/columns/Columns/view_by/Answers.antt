use Rattle.std.proofs.Common.{◌≤◌, ◌<◌, ◌∙◌, List, ℕ, length, get_or, sym, ap, arith}
use Rattle.code_table.specs.Cells.{cell_at, coded_in, end_of, moved_coded}
use Rattle.code_table.specs.ColumnsView.{ColumnsView}
use Rattle.code_table.specs.Moves.{shift_of}
use Rattle.code_table.proofs.ColumnLemmas.{at_place, place_within, within_at}
use Rattle.code_table.proofs.columns.Columns.view_by.Goals as goal

pub view_by-requires : goal.view_by-requires
view_by-requires c =
    let ws = c.self.inside.words.items in
    let cs = c.self.inside.cells.items in
    let p = c.args.at in
    let d = c.index.result.now in
    let lt : p < length cs = place_within ws cs c.args.self.now.items p (ap (λ (v : ColumnsView). v.items) c.self.view_is) c.requires.within in
    let le : end_of (get_or cs p d) ≤ length ws = within_at (length ws) cs p d lt c.self.invariant in
    record { within = omega (arith, ap end_of c.index.ensures, le, ap (λ (l : List ℕ). length l) c.deref.ensures.value) }

pub returns : goal.returns
returns c =
    let ws = c.self.inside.words.items in
    let cs = c.self.inside.cells.items in
    let p = c.args.at in
    let d = c.index.result.now in
    let lt : p < length cs = place_within ws cs c.args.self.now.items p (ap (λ (v : ColumnsView). v.items) c.self.view_is) c.requires.within in
    record {
      view = c.view_by.ensures.view
          ∙ ap (moved_coded (shift_of c.args.shift.now)) ((λ i. coded_in (c.deref.ensures.value i) (c.index.ensures i)) ∙ sym (at_place ws cs p d lt) ∙ ap (λ (v : ColumnsView). cell_at v.items p) c.self.view_is);
    }
