-- The edge of a delivery, by its place.
use Rattle.std.proofs.Common.{◌≡◌, ◌<◌, ◌+◌, ◌++◌, ℕ, Bool, true, false, List, [], ◌∷◌, Some, None, length, get_or, refl, sym, ap, ◌∙◌, arith}
use Rattle.std.specs.Prelude.{◌&&◌, ◌||◌, cond, not, slice_get}
use Rattle.std.specs.List.{list_any, position, position_or_len}
use Rattle.std.proofs.lemmas.Bool.{lt-ltb}
use Rattle.std.proofs.lemmas.List.Folds.{list_any_at}
use Rattle.std.proofs.lemmas.List.Quantifiers.{position-Some}
use Rattle.std.proofs.lemmas.Option.{slice_get-get_or}
use Rattle.asp_model.specs.History.{DeliveryShape, Edge, Need}
use Rattle.def_journals.specs.Edges.{Delivers, EdgeShape, HoldersShape, after_event, after_events, has_edge, same_edge}
use Rattle.law_chases.proofs.FutureLemmas.{no_some, none_true}
use Rattle.future_update.specs.Names.{edge_between}
use Rattle.future_update.proofs.PlaceLemmas.{same_edge_same}
use Rattle.future_update.specs.Holders.{is_delivered, place_in, with_delivery}
use Rattle.core_edges.specs.Deliveries.{events_along}

placed : (x : EdgeShape) (edges : List EdgeShape) (p : ℕ) → position (same_edge x) edges ≡ Some p → (slice_get edges p ≡ Some x) × (has_edge x edges ≡ true)
placed x edges p e =
    let at = position-Some (same_edge x) edges p x e in
    let same = same_edge_same x (get_or edges p x) at.1 in
    (slice_get-get_or edges p x at.0 ∙ ap Some (sym same), list_any_at (same_edge x) edges p x at.0 at.1)

placed_within : (p : EdgeShape → Bool) (xs : List EdgeShape) → list_any p xs ≡ true → position_or_len p xs < length xs
placed_within p [] h = none_true h
placed_within p (x ∷ xs) h = by (p x) h (placed_within p xs)
  where
    by : (b : Bool) → (b || list_any p xs) ≡ true → (list_any p xs ≡ true → position_or_len p xs < length xs) → cond (not b) (1 + position_or_len p xs) 0 < length (x ∷ xs)
    by true h rest = omega arith
    by false h rest = omega (arith, rest h)

not_had : (x : EdgeShape) (edges : List EdgeShape) → position (same_edge x) edges ≡ None → has_edge x edges ≡ false
not_had x edges e = by (has_edge x edges) refl
  where
    by : (b : Bool) → has_edge x edges ≡ b → b ≡ false
    by false is = refl
    by true is = no_some (sym e ∙ ap (λ b. cond b (Some (position_or_len (same_edge x) edges)) None) (lt-ltb _ _ (placed_within (same_edge x) edges is)))

module _ (x : EdgeShape) (h : HoldersShape) where
  same_delivered : (has_edge x h.edges && not (has_edge x h.delivered)) ≡ false → after_event (Delivers x) h ≡ h
  same_delivered e = λ i. record h { delivered = elim (e i) [ true ↦ h.delivered ++ x ∷ [] | false ↦ h.delivered ] }

-- nothing is noted of a delivery that has no place, or of an edge that was delivered
pub not_placed : (d : DeliveryShape) (h : HoldersShape) → None ≡ place_in d h.edges → h ≡ after_events (events_along d) h
not_placed (Edge f from to) h e = sym (same_delivered (edge_between f from to) h (ap (λ b. b && not (has_edge (edge_between f from to) h.delivered)) (not_had (edge_between f from to) h.edges (sym e))))
not_placed (Need f to place) h e = refl

pub noted_before : (d : DeliveryShape) (h : HoldersShape) (p : ℕ) → Some p ≡ place_in d h.edges → is_delivered h (slice_get h.edges p) ≡ true → h ≡ after_events (events_along d) h
noted_before (Edge f from to) h p e was =
    let x : EdgeShape = edge_between f from to in
    let at = placed x h.edges p (sym e) in
    let had : has_edge x h.delivered ≡ true = ap (is_delivered h) (sym at.0) ∙ was in
    sym (same_delivered x h (λ i. at.1 i && not (had i)))
noted_before (Need f to place) h p e was = no_some (sym e)

pub noted_now : (d : DeliveryShape) (h : HoldersShape) (p : ℕ) → Some p ≡ place_in d h.edges → with_delivery h (slice_get h.edges p) ≡ after_events (events_along d) h
noted_now (Edge f from to) h p e = ap (with_delivery h) (placed (edge_between f from to) h.edges p (sym e)).0
noted_now (Need f to place) h p e = no_some (sym e)
