use Rattle.std.proofs.Common.{◌≡◌, ◌≤◌, ℕ, length, sym, ap, subst, ◌∙◌}
use Rattle.asp_model.specs.Contraction.{members_of}
use Rattle.code_table.specs.Cells.{CodedStore, coded}
use Rattle.code_table.specs.Shapes.{store_of}
use Rattle.code_table.proofs.CodedLemmas.{length-store_of}
use Rattle.step_rows.proofs.ReadLemmas.{cell_seen}
use Rattle.step_reads.proofs.SightLemmas.{past_end}
use Rattle.step_activity.proofs.held.members_at.Goals as goal

pub returns-then-place-len : goal.returns-then-place-len
returns-then-place-len c = record {
  members = λ k.
      let s : CodedStore = c.args.store.now.cells in
      let size : c.len.result ≡ length (store_of k s) = c.len.ensures ∙ sym (length-store_of k s) in
      let past : length (store_of k s) ≤ c.args.place = subst (λ (n : ℕ). n ≤ c.args.place) size c.if-place-len.true in
      c.of.ensures.places ∙ sym (ap members_of (past_end (store_of k s) c.args.place past));
}

pub returns : goal.returns
returns c = record {
  members = λ k.
      let s : CodedStore = c.args.store.now.cells in
      c.members_of.ensures.members k ∙ sym (ap members_of (cell_seen k s c.args.place (coded c.cell.result) c.cell.ensures.cell));
}
