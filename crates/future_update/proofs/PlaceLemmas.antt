-- Edges by their names: the places of those that are kept, and those that are not.
use Rattle.std.proofs.Common.{◌≡◌, ℕ, ◌+◌, ◌<◌, Bool, true, false, cond, List, [], ◌∷◌, Option, Some, None, length, map, nat_lt, refl, sym, ap, ◌∙◌}
use Rattle.std.specs.Prelude.{◌&&◌, not, position, slice_get}
use Rattle.std.specs.List.{AllByRecursion, list_any, position_or_len}
use Rattle.std.specs.Option.{option_map}
use Rattle.std.proofs.lemmas.List.{length-map}
use Rattle.std.proofs.lemmas.Option.{slice_get-get_or, slice_get-map}
use Rattle.std.proofs.lemmas.List.Folds.{list_any_at}
use Rattle.std.proofs.lemmas.List.Quantifiers.{position-Some}
use Rattle.asp_model.specs.Names.{Name, FutureShape, same_future, same_name}
use Rattle.asp_model.specs.Order.{same_future_same, same_name_same}
use Rattle.asp_model.specs.declared.journal.Choice.{Choice}
use Rattle.asp_model.specs.Shapes.{choice_shape}
use Rattle.def_journals.specs.Edges.{EdgeShape, home_of, is_owed, owed_at, same_edge}
use Rattle.future_update.specs.declared.numbered.Edge.{Edge}
use Rattle.future_update.specs.declared.numbered.Future.{Future}
use Rattle.future_update.specs.declared.records.Records.{Records}
use Rattle.future_update.specs.Names.{IsKnownEdge, IsNew, edge_of, future_of, name_of}
use Rattle.future_update.specs.Numbered.{IsKnownHome, edge_at, home_entry, is_edge, no_edge}
use Rattle.future_update.specs.Records.{AreRecords, names_of, owes, shape_of}
use Rattle.future_update.proofs.NameLemmas.{clash}
use Rattle.future_update.proofs.NumberLemmas.{all_so, any_none, same_edges, truth}
use Rattle.future_update.proofs.RecordLemmas.{edges_known}

both_true : (a b : Bool) → (a && b) ≡ true → (a ≡ true) × (b ≡ true)
both_true true b e = (refl, e)
both_true false b e = clash e refl

pub same_edge_same : (x y : EdgeShape) → same_edge x y ≡ true → x ≡ y
same_edge_same x y e =
    let outer = both_true (same_future x.future y.future) (same_name x.from y.from && same_name x.to y.to) e in
    let inner = both_true (same_name x.from y.from) (same_name x.to y.to) outer.1 in
    λ i. record { future = same_future_same x.future y.future outer.0 i; from = same_name_same x.from y.from inner.0 i; to = same_name_same x.to y.to inner.1 i }

-- Places

counted_map : {K X : Type 0} (same : X → Bool) (eq : K → Bool) (h : K → X) (ks : List K) → AllByRecursion (λ k. same (h k) ≡ eq k) ks → position_or_len same (map h ks) ≡ position_or_len eq ks
counted_map same eq h [] all = refl
counted_map same eq h (k ∷ ks) all = λ i. cond (not (all.0 i)) (1 + counted_map same eq h ks all.1 i) 0

place_map : {K X : Type 0} (same : X → Bool) (eq : K → Bool) (h : K → X) (ks : List K) → AllByRecursion (λ k. same (h k) ≡ eq k) ks → position same (map h ks) ≡ position eq ks
place_map same eq h ks all = λ i. cond (nat_lt (counted_map same eq h ks all i) (length-map ks h i)) (Some (counted_map same eq h ks all i)) None

pub edge_place : (r : Records) → AreRecords r → (x : Edge) → IsKnownEdge (names_of r) x → position (is_edge x) r.edges.keys ≡ position (same_edge (edge_of (names_of r) x)) (shape_of r).edges
edge_place r h x known = sym (place_map (same_edge (edge_of (names_of r) x)) (is_edge x) (edge_of (names_of r)) r.edges.keys (all_so (IsKnownEdge (names_of r)) (λ y. same_edge (edge_of (names_of r) x) (edge_of (names_of r) y) ≡ is_edge x y) r.edges.keys (λ y k. same_edges (names_of r) h.names x y known k) (edges_known r h)))

no_place : (o : Option ℕ) (p : EdgeShape → Bool) (xs : List EdgeShape) → list_any p xs ≡ false → (d : EdgeShape) → position p xs ≡ o → o ≡ None
no_place None p xs absent d e = refl
no_place (Some i) p xs absent d e = let at = position-Some p xs i d e in clash (list_any_at p xs i d at.0 at.1) absent

pub all_map : {K X : Type 0} (P : X → Type 0) (h : K → X) (ks : List K) → AllByRecursion (λ k. P (h k)) ks → AllByRecursion P (map h ks)
all_map P h [] all = tt
all_map P h (k ∷ ks) all = (all.0, all_map P h ks all.1)

-- an edge of which an activity was not met has no place
pub edge_nowhere : (r : Records) → AreRecords r → (x : EdgeShape) → ((e : Edge) → IsKnownEdge (names_of r) e → edge_of (names_of r) e ≡ x → ⊥) → None ≡ position (same_edge x) (shape_of r).edges
edge_nowhere r h x new =
    let absent : list_any (same_edge x) (shape_of r).edges ≡ false = any_none (same_edge x) (shape_of r).edges (all_map (λ y. same_edge x y ≡ false) (edge_of (names_of r)) r.edges.keys (all_so (IsKnownEdge (names_of r)) (λ e. same_edge x (edge_of (names_of r) e) ≡ false) r.edges.keys (λ e k. truth (same_edge x (edge_of (names_of r) e)) (λ s. new e k (sym (same_edge_same x (edge_of (names_of r) e) s)))) (edges_known r h))) in
    sym (no_place (position (same_edge x) (shape_of r).edges) (same_edge x) (shape_of r).edges absent x refl)

-- a future whose sender was not met has no home
pub home_nowhere : (ns : List Name) (f : FutureShape) (es : List (Future × ℕ)) → AllByRecursion (IsKnownHome ns) es → IsNew ns f.by → home_of f (map (home_entry ns) es) ≡ None
home_nowhere ns f [] all new = refl
home_nowhere ns f (e ∷ es) all new =
    ap (λ b. elim b [ true ↦ Some (name_of ns e.1) | false ↦ home_of f (map (home_entry ns) es) ]) (truth (same_future f (future_of ns e.0)) (λ s. new e.0.by all.0.0 (sym (ap (λ (g : FutureShape). g.by) (same_future_same f (future_of ns e.0) s)))))
    ∙ home_nowhere ns f es all.1 new

-- The edge of a place

pub edge_stands : (r : Records) (p : ℕ) → p < length r.edges.keys → slice_get (shape_of r).edges p ≡ Some (edge_of (names_of r) (edge_at r.edges.keys p))
edge_stands r p lt = slice_get-map (edge_of (names_of r)) r.edges.keys p ∙ ap (option_map (edge_of (names_of r))) (slice_get-get_or r.edges.keys p no_edge lt)

-- whether it is owed, by its answer
pub owed_there : (r : Records) (p : ℕ) (a : Choice) → p < length r.edges.keys → slice_get r.answers.items p ≡ Some a → owes r p ≡ is_owed (shape_of r) (choice_shape a) (edge_of (names_of r) (edge_at r.edges.keys p))
owed_there r p a lt there = λ i. owed_at (shape_of r) (edge_stands r p lt i) ((slice_get-map choice_shape r.answers.items p ∙ ap (option_map choice_shape) there) i)
