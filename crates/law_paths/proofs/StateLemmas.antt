-- Sides that are read alike show the same lines at every depth.
use Rattle.std.specs.Prelude.{◌≡◌, ℕ, zero, suc, ◌==◌, ◌&&◌, Bool, true, false, List, [], ◌∷◌, ◌++◌, Option, Some, None, codes}
use Rattle.std.proofs.Common.{refl, sym, ap, subst, arith}
use Rattle.asp_model.specs.Store.{Field, CellShape, Number, Object, Reference, Future, Group}
use Rattle.law_chases.proofs.FutureLemmas.{none_true}
use Rattle.def_paths.specs.Places.{Place, In_store, In_value, Side, found, children}
use Rattle.def_paths.specs.Agree.{Pairs, no_pair, pair}
use Rattle.def_paths.specs.StateLines.{same_place, Path, is_compound, what_text, state_line, Shown, path_of, with_line, with_place, by_labels, by_numbers, shown_below, show_each, show_place, show_to, show_result, state_shown}
use Rattle.law_paths.specs.Links.{Matching}

-- Places can be told apart

both_true : (a b : Bool) → (a && b) ≡ true → (a ≡ true) × (b ≡ true)
both_true true b h = (refl, h)
both_true false b h = none_true h

pub place_tied : (p q : Place) → same_place p q ≡ true → p ≡ q
place_tied (In_store i) (In_store j) h = ap In_store (grind (arith, h))
place_tied (In_store i) (In_value q j) h = none_true h
place_tied (In_value p i) (In_store j) h = none_true h
place_tied (In_value p i) (In_value q j) h =
    let x = both_true (i == j) (same_place p q) h in
    let place : p ≡ q = place_tied p q x.1 in
    let number : i ≡ j = grind (arith, x.0) in
    λ k. In_value (place k) (number k)

number_itself : (i : ℕ) → (i == i) ≡ true
number_itself i = grind arith

pub place_itself : (p : Place) → same_place p p ≡ true
place_itself (In_store i) = number_itself i
place_itself (In_value p i) = (λ k. number_itself i k && place_itself p k)

same_bool : (a b : Bool) → (a ≡ true → b ≡ true) → (b ≡ true → a ≡ true) → a ≡ b
same_bool true b f g = sym (f refl)
same_bool false true f g = g refl
same_bool false false f g = refl

-- a result on both sides, at related places, or on neither
pub data BothResult (R : Place → Place → Type 0) : Option ℕ → Option ℕ → Type 0 where
  no_result : BothResult R None None
  results : {i j : ℕ} → R (In_store i) (In_store j) → BothResult R (Some i) (Some j)

module _ (a b : Side) (R : Place → Place → Type 0) (m : Matching a b R) where
  abbrev PlacesShown : Place × Path → Place × Path → Type 0
  PlacesShown x y = R x.0 y.0 × (x.1 ≡ y.1)

  record BothShown (v w : Shown) : Type 0 where
    places : Pairs PlacesShown v.places w.places
    lines : v.lines ≡ w.lines

  same_test : (p x q y : Place) → R p q → R x y → same_place p x ≡ same_place q y
  same_test p x q y r s = same_bool (same_place p x) (same_place q y)
      (λ h. subst (λ z. same_place q z ≡ true) (m.once p q y r (subst (λ z. R z y) (sym (place_tied p x h)) s)) (place_itself q))
      (λ h. subst (λ z. same_place p z ≡ true) (m.back p x q r (subst (R x) (sym (place_tied q y h)) s)) (place_itself p))

  same_path : (p q : Place) → R p q → (xs ys : List (Place × Path)) → Pairs PlacesShown xs ys → path_of p xs ≡ path_of q ys
  same_path p q r _ _ no_pair = refl
  same_path p q r _ _ (pair {x = x} {y = y} s ps) = (λ i. elim (same_test p x.0 q y.0 r s.0 i) [ true ↦ Some (s.1 i) | false ↦ same_path p q r _ _ ps i ])

  places_more : (xs ys : List (Place × Path)) (x y : Place × Path) → Pairs PlacesShown xs ys → PlacesShown x y → Pairs PlacesShown (xs ++ x ∷ []) (ys ++ y ∷ [])
  places_more _ _ x y no_pair s = pair s no_pair
  places_more _ _ x y (pair t ps) s = pair t (places_more _ _ x y ps s)

  -- What is below

  abbrev Named : Path × Place → Path × Place → Type 0
  Named x y = (x.0 ≡ y.0) × R x.1 y.1

  labels_named : (path : Path) (fs : List Field) (ps qs : List Place) → Pairs R ps qs → Pairs Named (by_labels path fs ps) (by_labels path fs qs)
  labels_named path [] ps qs h = no_pair
  labels_named path (f ∷ fs) _ _ no_pair = no_pair
  labels_named path (f ∷ fs) _ _ (pair r rs) = pair (refl, r) (labels_named path fs _ _ rs)

  numbers_named : (path : Path) (n : ℕ) (ps qs : List Place) → Pairs R ps qs → Pairs Named (by_numbers path n ps) (by_numbers path n qs)
  numbers_named path n _ _ no_pair = no_pair
  numbers_named path n _ _ (pair r rs) = pair (refl, r) (numbers_named path (suc n) _ _ rs)

  below_named : (path : Path) (c : CellShape) (ps qs : List Place) → Pairs R ps qs → Pairs Named (shown_below path c ps) (shown_below path c qs)
  below_named path (Object fields methods) ps qs h = labels_named path fields ps qs h
  below_named path (Group ns) ps qs h = numbers_named path 0 ps qs h
  below_named path (Number z) ps qs h = no_pair
  below_named path (Reference n) ps qs h = no_pair
  below_named path (Future f) ps qs h = no_pair

  -- Showing

  abbrev Shows : (Path → Place → Shown → Shown) → (Path → Place → Shown → Shown) → Type 0
  Shows show show' = (path : Path) (p q : Place) (v w : Shown) → R p q → BothShown v w → BothShown (show path p v) (show' path q w)

  each_shown : (show show' : Path → Place → Shown → Shown) → Shows show show' → (xs ys : List (Path × Place)) → Pairs Named xs ys → (v w : Shown) → BothShown v w → BothShown (show_each show xs v) (show_each show' ys w)
  each_shown show show' to _ _ no_pair v w h = h
  each_shown show show' to _ _ (pair {x = x} {y = y} {xs = xs} {ys = ys} n ns) v w h = each_shown show show' to xs ys ns _ _ (subst (λ path. BothShown (show x.0 x.1 v) (show' path y.1 w)) n.0 (to x.0 x.1 y.1 v w n.1 h))

  line_shown : (path what : List ℕ) (v w : Shown) → BothShown v w → BothShown (with_line path what v) (with_line path what w)
  line_shown path what v w h = record { places = h.places; lines = ap (λ ls. ls ++ state_line path what ∷ []) h.lines }

  place_shown : (path what : List ℕ) (p q : Place) (v w : Shown) → R p q → BothShown v w → BothShown (with_place p path what v) (with_place q path what w)
  place_shown path what p q v w r h = record { places = places_more v.places w.places (p, path) (q, path) h.places (r, refl); lines = ap (λ ls. ls ++ state_line path what ∷ []) h.lines }

  abbrev Nexts : (List (Path × Place) → Shown → Shown) → (List (Path × Place) → Shown → Shown) → Type 0
  Nexts next next' = (xs ys : List (Path × Place)) (v w : Shown) → Pairs Named xs ys → BothShown v w → BothShown (next xs v) (next' ys w)

  -- one place, by what is found at it and by the path that showed it before
  one_shown : (next next' : List (Path × Place) → Shown → Shown) → Nexts next next' → (path : Path) (p q : Place) (v w : Shown) → R p q → BothShown v w → (c : CellShape) (compound : Bool) (seen : Option Path)
      → BothShown
      (elim compound [ false ↦ with_line path (what_text c) v | true ↦ elim seen [ Some first ↦ with_line path (codes "same " ++ first) v | None ↦ next (shown_below path c (children a p)) (with_place p path (what_text c) v) ] ])
      (elim compound [ false ↦ with_line path (what_text c) w | true ↦ elim seen [ Some first ↦ with_line path (codes "same " ++ first) w | None ↦ next' (shown_below path c (children b q)) (with_place q path (what_text c) w) ] ])
  one_shown next next' to path p q v w r h c false seen = line_shown path (what_text c) v w h
  one_shown next next' to path p q v w r h c true (Some first) = line_shown path (codes "same " ++ first) v w h
  one_shown next next' to path p q v w r h c true None = to _ _ _ _ (below_named path c (children a p) (children b q) (m.next p q r)) (place_shown path (what_text c) p q v w r h)

  by_place : (next next' : List (Path × Place) → Shown → Shown) → Nexts next next' → Shows (λ path p v. show_place next a path p v) (λ path q w. show_place next' b path q w)
  by_place next next' to path p q v w r h =
      subst (λ c. BothShown (show_place next a path p v) (elim (is_compound c) [ false ↦ with_line path (what_text c) w | true ↦ elim (path_of q w.places) [ Some first ↦ with_line path (codes "same " ++ first) w | None ↦ next' (shown_below path c (children b q)) (with_place q path (what_text c) w) ] ])) (m.same p q r)
      (subst (λ seen. BothShown (show_place next a path p v) (elim (is_compound (found a p)) [ false ↦ with_line path (what_text (found a p)) w | true ↦ elim seen [ Some first ↦ with_line path (codes "same " ++ first) w | None ↦ next' (shown_below path (found a p) (children b q)) (with_place q path (what_text (found a p)) w) ] ])) (same_path p q r v.places w.places h.places)
      (one_shown next next' to path p q v w r h (found a p) (is_compound (found a p)) (path_of p v.places)))

  to_depth : (d : ℕ) → Shows (show_to d a) (show_to d b)
  to_depth zero = by_place (λ below z. z) (λ below z. z) (λ xs ys v w ns h. h)
  to_depth (suc d) = by_place (show_each (show_to d a)) (show_each (show_to d b)) (λ xs ys v w ns h. each_shown (show_to d a) (show_to d b) (to_depth d) xs ys ns v w h)

  result_shown : (d : ℕ) (o o' : Option ℕ) → BothResult R o o' → (v w : Shown) → BothShown v w → BothShown (show_result d a o v) (show_result d b o' w)
  result_shown d _ _ no_result v w h = h
  result_shown d _ _ (results r) v w h = to_depth d (codes "value") _ _ v w r h

  pub states_shown : (d i j : ℕ) (o o' : Option ℕ) → R (In_store i) (In_store j) → BothResult R o o' → (state_shown d a i o).lines ≡ (state_shown d b j o').lines
  states_shown d i j o o' r s = (result_shown d o o' s _ _ (to_depth d (codes "self") (In_store i) (In_store j) (record { places = []; lines = [] }) (record { places = []; lines = [] }) r (record { places = no_pair; lines = refl }))).lines
