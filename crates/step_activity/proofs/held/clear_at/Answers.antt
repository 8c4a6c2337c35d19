use Rattle.std.proofs.Common.{ℕ, sym, subst}
use Rattle.asp_model.specs.Store.{Store, cell}
use Rattle.code_table.specs.Shapes.{store_of}
use Rattle.step_reads.specs.declared.strict.Strict.{Strict}
use Rattle.step_activity.specs.Clear.{AreClear, AreClearAt}
use Rattle.step_activity.proofs.ClearLemmas.{clear_more}
use Rattle.code_table.specs.Places.{placed}
use Rattle.step_activity.proofs.held.clear_at.Goals as goal

pub returns-in-Members : goal.returns-in-Members
returns-in-Members c = record {
  clear = λ k h.
      let S : Store = store_of k c.args.store.now.cells in
      let i : ℕ = c.in-Members.place in
      let n : ℕ = c.clear_from.result in
      let here : AreClear S (cell S i) c.args.from = subst (λ (z : Strict). AreClearAt S z c.args.from) c.in-Members.is h in
      let more : AreClear S (cell S i) n = clear_more S (cell S i) (placed c.members_at.result) c.args.from n (c.members_at.ensures.members k) c.clear_from.ensures.within (c.clear_from.ensures.clear k) here in
      subst (λ (z : Strict). AreClearAt S z n) (sym c.in-Members.is) more;
}
