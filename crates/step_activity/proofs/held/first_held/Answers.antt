use Rattle.std.proofs.Common.{◌≡◌, ◌∙◌, ◌∷◌, ℕ, List, [], Option, Some, None, ap, sym, subst, take}
use Rattle.asp_model.specs.Contraction.{first_future, members_of}
use Rattle.asp_model.specs.Store.{Store, cell}
use Rattle.code_table.specs.Shapes.{store_of}
use Rattle.step_reads.specs.declared.strict.Strict.{Strict}
use Rattle.step_activity.specs.declared.held.Held.{Held}
use Rattle.step_activity.specs.Stances.{IsHeld, held_places}
use Rattle.step_activity.specs.Clear.{AreClear, AreClearAt}
use Rattle.step_activity.proofs.ClearLemmas.{members_none}
use Rattle.step_activity.proofs.HeldLemmas.{held_behind, held_more}
use Rattle.code_table.specs.Places.{placed}
use Rattle.step_activity.proofs.held.first_held.Goals as goal

pub returns-in-One : goal.returns-in-One
returns-in-One c = record {
  held = λ k clear.
      let S : Store = store_of k c.args.store.now.cells in
      subst (λ (x : Strict). IsHeld S (held_places S x) c.future_at.result) (sym c.in-One.is) (c.future_at.ensures.held k);
}

pub returns-in-Some : goal.returns-in-Some
returns-in-Some c = record {
  held = λ k clear.
      let S : Store = store_of k c.args.store.now.cells in
      let x : Held = c.in-Some.held in
      subst (λ (z : Strict). IsHeld S (held_places S z) (Some x)) (sym c.in-Two.is) (held_more S (c.in-Two.first ∷ []) (c.in-Two.second ∷ []) x (c.in-Some.ensures.held k));
}

pub returns-in-None : goal.returns-in-None
returns-in-None c = record {
  held = λ k clear.
      let S : Store = store_of k c.args.store.now.cells in
      let o : Option Held = c.future_at-in-None.result in
      subst (λ (z : Strict). IsHeld S (held_places S z) o) (sym c.in-Two.is) (held_behind S (c.in-Two.first ∷ []) (c.in-Two.second ∷ []) o (c.in-None.ensures.held k) (c.future_at-in-None.ensures.held k));
}

pub returns-in-Some-future_at : goal.returns-in-Some-future_at
returns-in-Some-future_at c = record {
  held = λ k clear.
      let S : Store = store_of k c.args.store.now.cells in
      let i : ℕ = c.in-Members.place in
      let x : Held = c.in-Some-future_at.held in
      subst (λ (z : Strict). IsHeld S (held_places S z) (Some x)) (sym c.in-Members.is) (held_more S (i ∷ []) (members_of (cell S i)) x (c.in-Some-future_at.ensures.held k));
}

pub returns-in-None-future_at : goal.returns-in-None-future_at
returns-in-None-future_at c = record {
  held = λ k clear.
      let S : Store = store_of k c.args.store.now.cells in
      let i : ℕ = c.in-Members.place in
      let o : Option Held = c.first_of.result in
      let are : placed c.members_at.result ≡ members_of (cell S i) = c.members_at.ensures.members k in
      let here : AreClear S (cell S i) c.args.clear = subst (λ (z : Strict). AreClearAt S z c.args.clear) c.in-Members.is clear in
      let none : first_future S (take c.args.clear (members_of (cell S i))) ≡ None = members_none S (cell S i) c.args.clear here in
      let members : IsHeld S (members_of (cell S i)) o = subst (λ (ns : List ℕ). IsHeld S ns o) are (c.first_of.ensures.held k (ap (λ (ns : List ℕ). first_future S (take c.args.clear ns)) are ∙ none)) in
      subst (λ (z : Strict). IsHeld S (held_places S z) o) (sym c.in-Members.is) (held_behind S (i ∷ []) (members_of (cell S i)) o (c.in-None-future_at.ensures.held k) members);
}
