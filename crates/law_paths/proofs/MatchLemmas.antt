-- Equal reading relates the places to which one path leads: they show the same, lead on alike, and have one partner.
use Rattle.std.specs.Prelude.{◌≡◌, ◌↔◌, ℕ, List, [], ◌∷◌, ◌++◌, Option, Some, None, map}
use Rattle.std.proofs.Common.{refl, sym, ap, subst, ◌∙◌}
use Rattle.law_chases.proofs.FutureLemmas.{no_some, some_is}
use Rattle.def_paths.specs.Places.{Place, In_store, Side, found, children, nth_place, from, found_at, AreReadAlike}
use Rattle.def_paths.specs.PathLabels.{PathLabel, number_by, numbered_child, leads_by, from_by}
use Rattle.law_paths.specs.Reading.{LabelsReadAlike}
use Rattle.law_paths.proofs.PairLemmas.{Ends, nowhere, somewhere, nth_pairs, pairs_nth}
use Rattle.law_paths.specs.Links.{Matching}
use Rattle.law_paths.proofs.PathLemmas.{RootsAlike, then_ends, from_on, then_some}

module _ (a b : Side) (xs ys : List ℕ) (alike : AreReadAlike a b xs ys) where
  -- one path leads to both
  pub record Reached (p q : Place) : Type 0 where
    pub root : ℕ
    pub path : List ℕ
    pub here : from a xs root path ≡ Some p
    pub there : from b ys root path ≡ Some q

  both_reached : (k : ℕ) (ns : List ℕ) (o o' : Option Place) → from a xs k ns ≡ o → from b ys k ns ≡ o' → Ends Reached o o'
  both_reached k ns None None e d = nowhere
  both_reached k ns None (Some q) e d = no_some (sym (ap (found_at a) e) ∙ alike.finds k ns ∙ ap (found_at b) d)
  both_reached k ns (Some p) None e d = no_some (sym (ap (found_at b) d) ∙ sym (alike.finds k ns) ∙ ap (found_at a) e)
  both_reached k ns (Some p) (Some q) e d = somewhere (record { root = k; path = ns; here = e; there = d })

  pub paths_match : Matching a b Reached
  paths_match = record {
    same = λ p q r. some_is (sym (ap (found_at a) r.here) ∙ alike.finds r.root r.path ∙ ap (found_at b) r.there);
    next = λ p q r. pairs_nth Reached (children a p) (children b q) (λ n. both_reached r.root (r.path ++ n ∷ []) _ _ (from_on a xs r.root r.path n p r.here) (from_on b ys r.root r.path n q r.there));
    once = λ p q q' r r'. some_is (sym r.there ∙ (alike.shares r.root r'.root r.path r'.path).0 (r.here ∙ sym r'.here) ∙ r'.there);
    back = λ p p' q r r'. some_is (sym r.here ∙ (alike.shares r.root r'.root r.path r'.path).1 (r.there ∙ sym r'.there) ∙ r'.here);
  }

  pub roots_match : RootsAlike Reached xs ys
  roots_match = pairs_nth Reached (map In_store xs) (map In_store ys) (λ k. both_reached k [] _ _ (then_some (nth_place (map In_store xs) k)) (then_some (nth_place (map In_store ys) k)))

-- Paths by labels

module _ (a b : Side) (R : Place → Place → Type 0) (m : Matching a b R) where
  numbered_ends : (p q : Place) → R p q → (o : Option ℕ) → Ends R (numbered_child (children a p) o) (numbered_child (children b q) o)
  numbered_ends p q r None = nowhere
  numbered_ends p q r (Some n) = nth_pairs R _ _ (m.next p q r) n

  labels_lead : (ts : List PathLabel) (p q : Place) → R p q → Ends R (leads_by a ts p) (leads_by b ts q)
  labels_lead [] p q r = somewhere r
  labels_lead (t ∷ ts) p q r = then_ends R _ _ (leads_by a ts) (leads_by b ts)
      (subst (λ c. Ends R (numbered_child (children a p) (number_by (found a p) t)) (numbered_child (children b q) (number_by c t))) (m.same p q r) (numbered_ends p q r (number_by (found a p) t))) (labels_lead ts)

  labels_end : (xs ys : List ℕ) → RootsAlike R xs ys → (k : ℕ) (ts : List PathLabel) → Ends R (from_by a xs k ts) (from_by b ys k ts)
  labels_end xs ys roots k ts = then_ends R _ _ (leads_by a ts) (leads_by b ts) (nth_pairs R _ _ roots k) (labels_lead ts)

  found_by : (o o' : Option Place) → Ends R o o' → found_at a o ≡ found_at b o'
  found_by _ _ nowhere = refl
  found_by _ _ (somewhere r) = ap Some (m.same _ _ r)

  one_place : (o o' x x' : Option Place) → Ends R o o' → Ends R x x' → (o ≡ x) ↔ (o' ≡ x')
  one_place _ _ _ _ nowhere nowhere = (λ e. refl, λ e. refl)
  one_place _ _ _ _ nowhere (somewhere r) = (λ e. no_some e, λ e. no_some e)
  one_place _ _ _ _ (somewhere r) nowhere = (λ e. no_some (sym e), λ e. no_some (sym e))
  one_place _ _ _ _ (somewhere {p = p} {q = q} r) (somewhere {p = p'} {q = q'} r') = (λ e. ap Some (m.once p q q' r (subst (λ x. R x q') (sym (some_is e)) r')), λ e. ap Some (m.back p p' q r (subst (R p') (sym (some_is e)) r')))

  labels_alike : (xs ys : List ℕ) → RootsAlike R xs ys → ((k : ℕ) (path : List PathLabel) → found_at a (from_by a xs k path) ≡ found_at b (from_by b ys k path)) × ((k l : ℕ) (path other : List PathLabel) → (from_by a xs k path ≡ from_by a xs l other) ↔ (from_by b ys k path ≡ from_by b ys l other))
  labels_alike xs ys roots = (
    λ k ts. found_by _ _ (labels_end xs ys roots k ts),
    λ k l ts us. one_place _ _ _ _ (labels_end xs ys roots k ts) (labels_end xs ys roots l us),
  )

pub labels_read_alike : LabelsReadAlike
labels_read_alike a b xs ys alike = labels_alike a b (Reached a b xs ys alike) (paths_match a b xs ys alike) xs ys (roots_match a b xs ys alike)
