-- Links lead to equal reading by paths, and equal reading is a link.
use Rattle.std.specs.Prelude.{◌≡◌, ◌↔◌, ℕ, zero, suc, List, [], ◌∷◌, ◌++◌, Option, Some, None, length, map}
use Rattle.std.proofs.Common.{refl, sym, ap, subst, ◌∙◌}
use Rattle.law_steps.specs.Linked.{Each}
use Rattle.law_steps.specs.Closed.{AreBelow}
use Rattle.law_chases.proofs.FutureLemmas.{no_some, some_is}
use Rattle.def_paths.specs.Places.{Place, In_store, Side, children, nth_place, then_place, leads, from, found_at, AreReadAlike}
use Rattle.def_paths.specs.Agree.{Pairs}
use Rattle.law_paths.specs.Links.{IsClosedSide, Good, Link, Matching, matching}
use Rattle.law_paths.proofs.PairLemmas.{Ends, nowhere, somewhere, nth_pairs, pairs_nth}
use Rattle.law_paths.proofs.GoodLemmas.{children_good}

-- roots that are related, one by one
abbrev pub RootsAlike : (Place → Place → Type 0) → List ℕ → List ℕ → Type 0
RootsAlike R xs ys = Pairs R (map In_store xs) (map In_store ys)

pub then_ends : (R : Place → Place → Type 0) (o o' : Option Place) (k l : Place → Option Place) → Ends R o o' → ((p q : Place) → R p q → Ends R (k p) (l q)) → Ends R (then_place o k) (then_place o' l)
then_ends R _ _ k l nowhere to = nowhere
then_ends R _ _ k l (somewhere r) to = to _ _ r

module _ (a b : Side) (R : Place → Place → Type 0) (l : Matching a b R) where
  pub link_leads : (ns : List ℕ) (p q : Place) → R p q → Ends R (leads a ns p) (leads b ns q)
  link_leads [] p q r = somewhere r
  link_leads (n ∷ ns) p q r = then_ends R (nth_place (children a p) n) (nth_place (children b q) n) (leads a ns) (leads b ns) (nth_pairs R _ _ (l.next p q r) n) (link_leads ns)

  link_from : (xs ys : List ℕ) → RootsAlike R xs ys → (k : ℕ) (ns : List ℕ) → Ends R (from a xs k ns) (from b ys k ns)
  link_from xs ys roots k ns = then_ends R (nth_place (map In_store xs) k) (nth_place (map In_store ys) k) (leads a ns) (leads b ns) (nth_pairs R _ _ roots k) (link_leads ns)

  found_ends : (o o' : Option Place) → Ends R o o' → found_at a o ≡ found_at b o'
  found_ends _ _ nowhere = refl
  found_ends _ _ (somewhere r) = ap Some (l.same _ _ r)

  one_place : (o o' x x' : Option Place) → Ends R o o' → Ends R x x' → (o ≡ x) ↔ (o' ≡ x')
  one_place _ _ _ _ nowhere nowhere = (λ e. refl, λ e. refl)
  one_place _ _ _ _ nowhere (somewhere r) = (λ e. no_some e, λ e. no_some e)
  one_place _ _ _ _ (somewhere r) nowhere = (λ e. no_some (sym e), λ e. no_some (sym e))
  one_place _ _ _ _ (somewhere {p = p} {q = q} r) (somewhere {p = p'} {q = q'} r') = (λ e. ap Some (l.once p q q' r (subst (λ x. R x q') (sym (some_is e)) r')), λ e. ap Some (l.back p p' q r (subst (R p') (sym (some_is e)) r')))

  -- a relation that matches the roots leads to equal reading
  pub matching_reads : (xs ys : List ℕ) → RootsAlike R xs ys → AreReadAlike a b xs ys
  matching_reads xs ys roots = record {
    finds = λ k ns. found_ends _ _ (link_from xs ys roots k ns);
    shares = λ k l ns ms. one_place _ _ _ _ (link_from xs ys roots k ns) (link_from xs ys roots l ms);
  }

-- so does a link
pub link_reads : (a b : Side) (R : Place → Place → Type 0) → Link a b R → (xs ys : List ℕ) → RootsAlike R xs ys → AreReadAlike a b xs ys
link_reads a b R l = matching_reads a b R (matching l)

-- Back: places that one path leads to

leads_on : (a : Side) (ns : List ℕ) (n : ℕ) (p : Place) → leads a (ns ++ n ∷ []) p ≡ then_place (leads a ns p) (λ q. nth_place (children a q) n)
leads_on a [] n p = last (nth_place (children a p) n)
  where
    last : (o : Option Place) → then_place o (λ q. Some q) ≡ o
    last None = refl
    last (Some q) = refl
leads_on a (m ∷ ns) n p = on (nth_place (children a p) m) (leads_on a ns n)
  where
    on : (o : Option Place) → ((q : Place) → leads a (ns ++ n ∷ []) q ≡ then_place (leads a ns q) (λ r. nth_place (children a r) n)) → then_place o (leads a (ns ++ n ∷ [])) ≡ then_place (then_place o (leads a ns)) (λ q. nth_place (children a q) n)
    on None to = refl
    on (Some q) to = to q

pub from_on : (a : Side) (xs : List ℕ) (k : ℕ) (ns : List ℕ) (n : ℕ) (p : Place) → from a xs k ns ≡ Some p → from a xs k (ns ++ n ∷ []) ≡ nth_place (children a p) n
from_on a xs k ns n p e = on (nth_place (map In_store xs) k) e
  where
    on : (o : Option Place) → then_place o (leads a ns) ≡ Some p → then_place o (leads a (ns ++ n ∷ [])) ≡ nth_place (children a p) n
    on None e = no_some e
    on (Some q) e = leads_on a ns n q ∙ ap (λ o. then_place o (λ z. nth_place (children a z) n)) e

nth_good : (a : Side) (ps : List Place) → Each (Good a) ps → (n : ℕ) (p : Place) → nth_place ps n ≡ Some p → Good a p
nth_good a [] h n p e = no_some e
nth_good a (q ∷ ps) h zero p e = subst (Good a) (some_is e) h.0
nth_good a (q ∷ ps) h (suc n) p e = nth_good a ps h.1 n p e

module _ (a : Side) (closed : IsClosedSide a) where
  leads_good : (ns : List ℕ) (p q : Place) → Good a p → leads a ns p ≡ Some q → Good a q
  leads_good [] p q g e = subst (Good a) (some_is e) g
  leads_good (n ∷ ns) p q g e = on (nth_place (children a p) n) refl e (leads_good ns)
    where
      on : (o : Option Place) → nth_place (children a p) n ≡ o → then_place o (leads a ns) ≡ Some q → ((r s : Place) → Good a r → leads a ns r ≡ Some s → Good a s) → Good a q
      on None is e to = no_some e
      on (Some r) is e to = to r q (nth_good a (children a p) (children_good a closed p g) n r is) e

  roots_good : (xs : List ℕ) → AreBelow (length a.store) xs → Each (Good a) (map In_store xs)
  roots_good [] h = tt
  roots_good (x ∷ xs) h = (h.0, roots_good xs h.1)

  -- a path from a root that is there leads to a place that is there
  pub from_good : (xs : List ℕ) → AreBelow (length a.store) xs → (k : ℕ) (ns : List ℕ) (p : Place) → from a xs k ns ≡ Some p → Good a p
  from_good xs h k ns p e = on (nth_place (map In_store xs) k) refl e
    where
      on : (o : Option Place) → nth_place (map In_store xs) k ≡ o → then_place o (leads a ns) ≡ Some p → Good a p
      on None is e = no_some e
      on (Some q) is e = leads_good ns q p (nth_good a (map In_store xs) (roots_good xs h) k q is) e

pub then_some : (o : Option Place) → then_place o (λ p. Some p) ≡ o
then_some None = refl
then_some (Some p) = refl

module _ (a b : Side) (ha : IsClosedSide a) (hb : IsClosedSide b) (xs ys : List ℕ) (below : AreBelow (length a.store) xs) (below' : AreBelow (length b.store) ys) (alike : AreReadAlike a b xs ys) where
  -- one path leads to both
  pub record OnePath (p q : Place) : Type 0 where
    pub root : ℕ
    pub path : List ℕ
    pub here : from a xs root path ≡ Some p
    pub there : from b ys root path ≡ Some q

  both_found : (k : ℕ) (ns : List ℕ) (o o' : Option Place) → from a xs k ns ≡ o → from b ys k ns ≡ o' → Ends OnePath o o'
  both_found k ns None None e d = nowhere
  both_found k ns None (Some q) e d = no_some (sym (ap (found_at a) e) ∙ alike.finds k ns ∙ ap (found_at b) d)
  both_found k ns (Some p) None e d = no_some (sym (ap (found_at b) d) ∙ sym (alike.finds k ns) ∙ ap (found_at a) e)
  both_found k ns (Some p) (Some q) e d = somewhere (record { root = k; path = ns; here = e; there = d })

  -- equal reading is a link that relates the roots
  pub paths_link : Link a b OnePath
  paths_link = record {
    left = λ p q r. from_good a ha xs below r.root r.path p r.here;
    right = λ p q r. from_good b hb ys below' r.root r.path q r.there;
    same = λ p q r. some_is (sym (ap (found_at a) r.here) ∙ alike.finds r.root r.path ∙ ap (found_at b) r.there);
    next = λ p q r. pairs_nth OnePath (children a p) (children b q) (λ n. both_found r.root (r.path ++ n ∷ []) _ _ (from_on a xs r.root r.path n p r.here) (from_on b ys r.root r.path n q r.there));
    once = λ p q q' r r'. some_is (sym r.there ∙ (alike.shares r.root r'.root r.path r'.path).0 (r.here ∙ sym r'.here) ∙ r'.there);
    back = λ p p' q r r'. some_is (sym r.here ∙ (alike.shares r.root r'.root r.path r'.path).1 (r.there ∙ sym r'.there) ∙ r'.here);
  }

  pub roots_linked : RootsAlike OnePath xs ys
  roots_linked = pairs_nth OnePath (map In_store xs) (map In_store ys) (λ k. both_found k [] _ _ (then_some (nth_place (map In_store xs) k)) (then_some (nth_place (map In_store ys) k)))
