-- Edges that are kept are pairwise different, and none has equal ends.
use Rattle.std.proofs.Common.{◌≡◌, ◌≢◌, ℕ, zero, suc, ◌<◌, eqb, List, [], ◌∷◌, length, map, false, ◌∙◌, arith}
use Rattle.std.specs.List.{AllByRecursion, IsDistinct}
use Rattle.std.proofs.lemmas.Bool.{eqb-true}
use Rattle.asp_model.specs.Names.{Name}
use Rattle.def_journals.specs.Edges.{same_edge}
use Rattle.future_update.specs.declared.numbered.Edge.{Edge}
use Rattle.future_update.specs.Names.{AreNames, IsKnownEdge, edge_of}
use Rattle.future_update.specs.Numbered.{AreEdges, IsPassed, edge_at, is_edge}
use Rattle.future_update.proofs.NumberLemmas.{all_so, is_edge_same, same_edges, same_names, truth}
use Rattle.future_update.proofs.PlaceLemmas.{all_map}
use Rattle.future_update.specs.Holders as view

pub edges_apart : (ns : List Name) → AreNames ns → (es : List Edge) → AllByRecursion (IsPassed ns) es → AreEdges es → view.AreEdges (map (edge_of ns) es)
unfolding IsDistinct
edges_apart ns names [] passed apart = (tt, tt)
edges_apart ns names (e ∷ es) passed apart =
    let rest = edges_apart ns names es passed.1 (λ i j lt_i lt_j same. suc_same i j (apart (suc i) (suc j) (omega (arith, lt_i)) (omega (arith, lt_j)) same)) in
    let known = all_so (IsPassed ns) (IsKnownEdge ns) es (λ x h. h.0) passed.1 in
    let others = others_of es (λ i lt same. zero_not_suc i (apart zero (suc i) (omega arith) (omega (arith, lt)) same)) in
    ((all_map (λ y. same_edge (edge_of ns e) y ≡ false) (edge_of ns) es (all_both es known others), rest.0), (same_names ns names e.from e.to passed.0.0.from passed.0.0.to ∙ truth (eqb e.from e.to) (λ s. passed.0.1 (eqb-true e.from e.to s)), rest.1))
  where
    suc_same : (i j : ℕ) → suc i ≡ suc j → i ≡ j
    suc_same i j e = omega (arith, e)

    zero_not_suc : (i : ℕ) → zero ≡ suc i → ⊥
    zero_not_suc i e = omega (arith, e)

    others_of : (xs : List Edge) → ((i : ℕ) → i < length xs → e ≡ edge_at xs i → ⊥) → AllByRecursion (λ x. e ≢ x) xs
    others_of [] never = tt
    others_of (x ∷ xs) never = (never zero (omega arith), others_of xs (λ i lt same. never (suc i) (omega (arith, lt)) same))

    all_both : (xs : List Edge) → AllByRecursion (IsKnownEdge ns) xs → AllByRecursion (λ x. e ≢ x) xs → AllByRecursion (λ x. same_edge (edge_of ns e) (edge_of ns x) ≡ false) xs
    all_both [] k o = tt
    all_both (x ∷ xs) k o = (same_edges ns names e x passed.0.0 k.0 ∙ truth (is_edge e x) (λ s. o.0 (is_edge_same e x s)), all_both xs k.1 o.1)
