-- Which edge is due, as the edges tell it.
use Rattle.std.proofs.Common.{◌≡◌, ◌&&◌, ℕ, zero, suc, not, List, [], ◌∷◌, Option, Some, None, is_some, is_none, slice_get, refl, sym, ap, subst, ◌∙◌, arith}
use Rattle.std.specs.Option.{option_map}
use Rattle.asp_model.specs.Names.{Name}
use Rattle.def_journals.specs.Edges.{EdgeShape, owed_at}
use Rattle.def_journals.specs.Journals.{RunShape, grant_of, is_in}
use Rattle.def_journals.specs.Owed.{first_edge}
use Rattle.law_journals.specs.EdgesKept.{IsKnownEdge}
use Rattle.law_chases.proofs.FutureLemmas.{no_some, some_is}
use Rattle.law_steps.specs.Linked.{Each}
use Rattle.law_steps.specs.Reached.{IsThere}
use Rattle.law_journals.specs.Numbered.{AreNumbered}
use Rattle.future_update.specs.declared.edge.EdgeNames.{EdgeNames}
use Rattle.future_update.specs.Names.{delivery_along, edge_named}
use Rattle.future_update.specs.Holders.{HoldersView, is_out, is_receiver_out, owed_to_one_in}
use Rattle.core_edges.specs.Due.{IsDue}
use Rattle.law_core.specs.Owed.{is_due, is_in_to}
use Rattle.law_core.proofs.OwedLemmas.{edges_are_first, in_named}
use Rattle.asp_core.specs.Runs.{AreToldOut}

pub each_got : {X : Type 0} (P : X → Type 0) (xs : List X) (p : ℕ) (x : X) → Each P xs → slice_get xs p ≡ Some x → P x
each_got P [] p x each got = no_some got
each_got P (y ∷ ys) zero x each got = subst P (some_is got) each.0
each_got P (y ∷ ys) (suc p) x each got = each_got P ys p x each.1 got

-- who is out is not in
pub in_told : (s : RunShape) (v : HoldersView) → AreNumbered s → AreToldOut s v.activities → (n : Name) → IsThere s.configuration n → not (is_out n v.activities) ≡ is_in s n
in_told s v numbered told n there =
    let k = numbered.numbered n there in
    ap not (told k.0 n k.1) ∙ by (grant_of k.0 s.out) ∙ sym (in_named s numbered k.0 n k.1)
  where
    by : (o : Option ℕ) → not (is_some o) ≡ is_none o
    by None = refl
    by (Some g) = refl

module _ (s : RunShape) (v : HoldersView) (numbered : AreNumbered s) (told : AreToldOut s v.activities) (known : Each (IsKnownEdge s.configuration) v.holders.edges) where
  pub due_so : (p : ℕ) → owed_to_one_in v p ≡ is_due s v.holders v.answers p
  due_so p = by (slice_get v.holders.edges p) refl
    where
      by : (o : Option EdgeShape) → slice_get v.holders.edges p ≡ o
          → (owed_at v.holders o (slice_get v.answers p) && not (is_receiver_out v o)) ≡ (owed_at v.holders o (slice_get v.answers p) && is_in_to s o)
      by None none = refl
      by (Some x) got = ap (λ b. owed_at v.holders (Some x) (slice_get v.answers p) && b) (in_told s v numbered told x.to (each_got (IsKnownEdge s.configuration) v.holders.edges p x known got).2)

  pub first_so : (o : Option EdgeNames) → IsDue v o → first_edge s v.holders v.holders.edges v.answers ≡ option_map (λ x. delivery_along (edge_named x)) o
  first_so None none = (edges_are_first s v.holders v.answers).none (λ place. sym (due_so place) ∙ none place)
  first_so (Some x) is =
      (edges_are_first s v.holders v.answers).found is.place (edge_named x) is.edge (sym (due_so is.place) ∙ is.first.1)
      (λ i lt. sym (due_so i) ∙ is.first.2 i (omega arith) lt)
