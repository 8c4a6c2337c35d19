use Rattle.std.proofs.Common.{◌≡◌, ◌≤◌, ℕ, [], length, sym, ap, subst, ◌∙◌}
use Rattle.asp_model.specs.Contraction.{is_future}
use Rattle.asp_model.specs.Shapes.{future_shape}
use Rattle.asp_model.specs.Store as store
use Rattle.asp_model.specs.Store.{Store, cell}
use Rattle.code_table.specs.Cells.{CodedStore, coded}
use Rattle.code_table.specs.Shapes.{store_of}
use Rattle.step_rows.proofs.GroupLemmas.{future_here, future_later, past_future}
use Rattle.step_rows.proofs.ReadLemmas.{cell_seen}
use Rattle.step_activity.proofs.held.future_at.Goals as goal

pub returns-then-place-len : goal.returns-then-place-len
returns-then-place-len c = record {
  held = λ k.
      let s : CodedStore = c.args.store.now.cells in
      let past : length s ≤ c.args.place = subst (λ (n : ℕ). n ≤ c.args.place) c.len.ensures c.if-place-len.true in
      future_later (store_of k s) c.args.place [] (sym (past_future k s c.args.place past));
}

pub returns-in-Some : goal.returns-in-Some
returns-in-Some c = record {
  held = λ k.
      let s : CodedStore = c.args.store.now.cells in
      let p : ℕ = c.args.place in
      let at : cell (store_of k s) p ≡ store.Future (future_shape c.in-Some.future.now) = cell_seen k s p (coded c.cell.result) c.cell.ensures.cell ∙ c.in-Some.ensures.future k in
      (future_here (store_of k s) p [] (ap is_future at), at);
}

pub returns-in-None : goal.returns-in-None
returns-in-None c = record {
  held = λ k.
      let s : CodedStore = c.args.store.now.cells in
      let p : ℕ = c.args.place in
      future_later (store_of k s) p [] (ap is_future (cell_seen k s p (coded c.cell.result) c.cell.ensures.cell) ∙ c.in-None.ensures.future k);
}
