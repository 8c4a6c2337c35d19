-- The locations of a piece are the captured places that it uses.
use Rattle.std.proofs.Common.{◌≡◌, ℕ, zero, suc, ◌+◌, ◌<◌, List, [], ◌∷◌, ◌++◌, length, map, get_or, refl, sym, ap, subst, ◌∙◌, arith, append_assoc}
use Rattle.std.proofs.lemmas.List.{append-nil}
use Rattle.std.specs.List.{flat_map}
use Rattle.asp_model.specs.Names.{Text}
use Rattle.asp_model.specs.Term.{Head, Loc, Tree, Trees, none, loc, Environment, own_locations, locations, locations_below, binders}
use Rattle.code_table.specs.declared.code.Leaf.{Leaf}
use Rattle.code_table.specs.declared.code.Leaf.TheVariants as leaves
use Rattle.code_table.specs.declared.code.Capture.{Capture}
use Rattle.code_table.specs.Pieces.{Piece, variable, piece, object, Pieces, nothing, also, Bodies, no_method, method, at_slot, leaf_tree, captured_trees, tree, below, bodies}
use Rattle.code_table.specs.Fitting.{LeafFits, CapturesFit, IsNode, Fits, AllFit, BodiesFit, captured_names, body_scope, body_height, slots_from}
use Rattle.code_table.specs.Uses.{leaf_use, use_at, uses, uses_below, uses_in, at_slots, LocationsAreUses}

flat_append : {X Y : Type 0} (f : X → List Y) (xs ys : List X) → flat_map f (xs ++ ys) ≡ flat_map f xs ++ flat_map f ys
flat_append f [] ys = refl
flat_append f (x ∷ xs) ys = ap (λ zs. f x ++ zs) (flat_append f xs ys) ∙ sym (append_assoc (f x) (flat_map f xs) (flat_map f ys))

flat_same : {X Y : Type 0} (f g : X → List Y) → ((x : X) → f x ≡ g x) → (xs : List X) → flat_map f xs ≡ flat_map g xs
flat_same f g h [] = refl
flat_same f g h (x ∷ xs) = λ i. h x i ++ flat_same f g h xs i

flat_flat : {X Y Z : Type 0} (f : Y → List Z) (g : X → List Y) (xs : List X) → flat_map (λ x. flat_map f (g x)) xs ≡ flat_map f (flat_map g xs)
flat_flat f g [] = refl
flat_flat f g (x ∷ xs) = ap (λ zs. flat_map f (g x) ++ zs) (flat_flat f g xs) ∙ sym (flat_append f (g x) (flat_map g xs))

-- the locations of the tree in a slot
abbrev pub inside : List Tree → ℕ → List ℕ
inside ts k = locations (at_slot k ts)

leaf_inside : (ts : List Tree) (l : Leaf) → locations (leaf_tree ts l) ≡ flat_map (inside ts) (leaf_use l)
leaf_inside ts (leaves.Own k x) = refl
leaf_inside ts (leaves.Kept k) = sym (append-nil (inside ts k))

hole_inside : (k : ℕ) → inside [] k ≡ []
hole_inside k = refl

passed_inside : (ts : List Tree) (cs : List Capture) (k : ℕ) → inside (captured_trees ts cs) k ≡ flat_map (inside ts) (use_at cs k)
passed_inside ts [] k = hole_inside k
passed_inside ts (c ∷ cs) zero = leaf_inside ts c.leaf
passed_inside ts (c ∷ cs) (suc k) = passed_inside ts cs k

both : (f : ℕ → List ℕ) (xs ys : List ℕ) (l m r : List ℕ) → l ≡ flat_map f xs → m ≡ flat_map f ys ++ r → l ++ m ≡ flat_map f (xs ++ ys) ++ r
both f xs ys l m r h g = (λ i. h i ++ g i) ∙ sym (append_assoc (flat_map f xs) (flat_map f ys) r) ∙ ap (λ zs. zs ++ r) (sym (flat_append f xs ys))

-- a node of code is no location
placeless : (h : Head) → IsNode h → own_locations h ≡ []
placeless (Loc n) g = absurd g
placeless _ g = refl

mutual
  pub found_in : (p : Piece) (ts : List Tree) (xs : List Text) (scope : Environment) (h : ℕ) → Fits xs scope h p → locations (tree ts p) ≡ flat_map (inside ts) (uses p)
  found_in (variable l) ts xs scope h f = leaf_inside ts l
  found_in (piece hd ps) ts xs scope h f = ap (λ (l : List ℕ). l ++ locations_below (below ts ps none)) (placeless hd f.0) ∙ found_below ps ts none xs scope h (binders hd) f.2 ∙ append-nil (flat_map (inside ts) (uses_below ps))
  found_in (object ls fs ms) ts xs scope h f =
      found_below fs ts (bodies ts ms) xs scope h [] f.1 ∙ ap (λ (l : List ℕ). flat_map (inside ts) (uses_below fs) ++ l) (found_bodies ms ts xs scope f.2)
      ∙ sym (flat_append (inside ts) (uses_below fs) (uses_in ms))

  found_below : (ps : Pieces) (ts : List Tree) (us : Trees) (xs : List Text) (scope : Environment) (h : ℕ) (bound : List (List Text)) → AllFit xs scope h bound ps
      → locations_below (below ts ps us) ≡ flat_map (inside ts) (uses_below ps) ++ locations_below us
  found_below nothing ts us xs scope h bound f = refl
  found_below (also p ps) ts us xs scope h [] f = both (inside ts) (uses p) (uses_below ps) (locations (tree ts p)) (locations_below (below ts ps us)) (locations_below us) (found_in p ts xs scope h f.0) (found_below ps ts us xs scope h [] f.1)
  found_below (also p ps) ts us xs scope h (ys ∷ bound) f = both (inside ts) (uses p) (uses_below ps) (locations (tree ts p)) (locations_below (below ts ps us)) (locations_below us) (found_in p ts xs (slots_from h ys ++ scope) (h + length ys) f.0) (found_below ps ts us xs scope h bound f.1)

  found_bodies : (ms : Bodies) (ts : List Tree) (xs : List Text) (scope : Environment) → BodiesFit xs scope ms → locations_below (bodies ts ms) ≡ flat_map (inside ts) (uses_in ms)
  found_bodies no_method ts xs scope f = refl
  found_bodies (method m cs b ms) ts xs scope f =
      (λ i. (found_in b (captured_trees ts cs) (captured_names cs) (body_scope cs m) (body_height cs m) f.1 ∙ flat_same (inside (captured_trees ts cs)) (λ k. flat_map (inside ts) (use_at cs k)) (passed_inside ts cs) (uses b) ∙ flat_flat (inside ts) (use_at cs) (uses b)) i ++ found_bodies ms ts xs scope f.2 i)
      ∙ sym (flat_append (inside ts) (flat_map (use_at cs) (uses b)) (uses_in ms))

abbrev pub AllUnder : ℕ → List ℕ → Type 0
AllUnder c [] = Unit {0}
AllUnder c (k ∷ ks) = (k < c) × AllUnder c ks

place_in : (cs : List ℕ) (k : ℕ) → k < length cs → at_slot k (map loc cs) ≡ loc (get_or cs k 0)
place_in [] k h = absurd (omega (arith, h))
place_in (c ∷ cs) zero h = refl
place_in (c ∷ cs) (suc k) h = let less : k < length cs = omega (arith, h) in place_in cs k less

places_in : (cs ks : List ℕ) → AllUnder (length cs) ks → flat_map (inside (map loc cs)) ks ≡ at_slots cs ks
places_in cs [] h = refl
places_in cs (k ∷ ks) h = λ i. locations (place_in cs k h.0 i) ++ places_in cs ks h.1 i

under_append : (c : ℕ) (xs ys : List ℕ) → AllUnder c xs → AllUnder c ys → AllUnder c (xs ++ ys)
under_append c [] ys h g = g
under_append c (x ∷ xs) ys h g = (h.0, under_append c xs ys h.1 g)

leaf_under : (xs : List Text) (scope : Environment) (l : Leaf) → LeafFits xs scope l → AllUnder (length xs) (leaf_use l)
leaf_under xs scope (leaves.Own k x) h = tt
leaf_under xs scope (leaves.Kept k) h = (h.0, tt)

at_under : (xs : List Text) (scope : Environment) (cs : List Capture) (k : ℕ) → CapturesFit xs scope cs → AllUnder (length xs) (use_at cs k)
at_under xs scope [] k h = tt
at_under xs scope (c ∷ cs) zero h = leaf_under xs scope c.leaf h.0
at_under xs scope (c ∷ cs) (suc k) h = at_under xs scope cs k h.2

passed_under : (xs : List Text) (scope : Environment) (cs : List Capture) (ks : List ℕ) → CapturesFit xs scope cs → AllUnder (length xs) (flat_map (use_at cs) ks)
passed_under xs scope cs [] h = tt
passed_under xs scope cs (k ∷ ks) h = under_append (length xs) (use_at cs k) (flat_map (use_at cs) ks) (at_under xs scope cs k h) (passed_under xs scope cs ks h)

mutual
  -- a piece uses only what was captured
  used_under : (p : Piece) (xs : List Text) (scope : Environment) (h : ℕ) → Fits xs scope h p → AllUnder (length xs) (uses p)
  used_under (variable l) xs scope h s = leaf_under xs scope l s
  used_under (piece hd ps) xs scope h s = below_under ps xs scope h (binders hd) s.2
  used_under (object ls fs ms) xs scope h s = under_append (length xs) (uses_below fs) (uses_in ms) (below_under fs xs scope h [] s.1) (bodies_under ms xs scope s.2)

  below_under : (ps : Pieces) (xs : List Text) (scope : Environment) (h : ℕ) (bound : List (List Text)) → AllFit xs scope h bound ps → AllUnder (length xs) (uses_below ps)
  below_under nothing xs scope h bound s = tt
  below_under (also p ps) xs scope h [] s = under_append (length xs) (uses p) (uses_below ps) (used_under p xs scope h s.0) (below_under ps xs scope h [] s.1)
  below_under (also p ps) xs scope h (ys ∷ bound) s = under_append (length xs) (uses p) (uses_below ps) (used_under p xs (slots_from h ys ++ scope) (h + length ys) s.0) (below_under ps xs scope h bound s.1)

  bodies_under : (ms : Bodies) (xs : List Text) (scope : Environment) → BodiesFit xs scope ms → AllUnder (length xs) (uses_in ms)
  bodies_under no_method xs scope s = tt
  bodies_under (method hd cs b ms) xs scope s = under_append (length xs) (flat_map (use_at cs) (uses b)) (uses_in ms) (passed_under xs scope cs (uses b) s.0) (bodies_under ms xs scope s.2)

-- the slots that a piece uses are below the count of what was captured
pub uses_below_count : (xs : List Text) (scope : Environment) (h : ℕ) (p : Piece) → Fits xs scope h p → AllUnder (length xs) (uses p)
uses_below_count xs scope h p f = used_under p xs scope h f

pub locations_are_uses : LocationsAreUses
locations_are_uses xs scope h p cs f size =
    found_in p (map loc cs) xs scope h f ∙ places_in cs (uses p) (subst (λ (c : ℕ). AllUnder c (uses p)) size (used_under p xs scope h f))
