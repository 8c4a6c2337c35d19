use Rattle.std.proofs.Common.{◌≡◌, ◌∙◌, ◌++◌, ◌<◌, ◌≤◌, ℕ, length, arith, ap, subst, sym}
use Rattle.std.specs.Prelude.{string_bytes}
use Rattle.code_table.specs.Cells.{CodedCell, CodedStore, coded}
use Rattle.code_table.specs.Shapes.{cell_of}
use Rattle.checkpoint_text.specs.Items.{Items, cell_items, number_items}
use Rattle.checkpoint_text.specs.Writing.{words}
use Rattle.checkpoint_text.proofs.WritingLemmas.{list_mapped, list_over}
use Rattle.frozen_runs.proofs.CellLemmas.{cell_more}
use Rattle.frozen_runs.proofs.activities.put_store.Goals as goal

pub loop-place-preserved : goal.loop-place-preserved
loop-place-preserved c =
    let s : CodedStore = c.args.store.now.cells in
    let lt : c.loop-place.place < length s = omega arith in
    cell_more c.args.code.now s c.loop-place.place (coded c.cell.result) (string_bytes c.loop-place.text) (string_bytes c.put_cell.new.text) lt c.cell.ensures.cell c.in_ok-put_cell.ensures.adds ∙ c.loop-place.invariant

pub returns : goal.returns
returns c =
    let old = string_bytes c.args.text.now in
    let k = c.args.code.now in
    let s : CodedStore = c.args.store.now.cells in
    let past : length s ≤ c.loop-place.place = omega arith in
    let counted = subst (λ (n : ℕ). string_bytes c.put_number.new.text ≡ old ++ words (number_items n)) c.len.ensures c.in_ok-put_number.ensures.adds in
    record {
      adds = list_over (λ (x : CodedCell). cell_items (cell_of k x)) s c.loop-place.place old (string_bytes c.put_number.new.text) (string_bytes c.loop-place.text) past counted c.loop-place.invariant
          ∙ ap (λ (ts : Items). old ++ words ts) (sym (list_mapped cell_items (cell_of k) s));
    }
