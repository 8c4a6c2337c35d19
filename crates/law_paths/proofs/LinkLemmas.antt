-- Links: there and back, one after the other, and with more places.
use Rattle.std.specs.Prelude.{◌≡◌, List, [], ◌∷◌}
use Rattle.std.proofs.Common.{refl, sym, ap, subst, ◌∙◌, inl, ⊎_elim, ◌⊎◌}
use Rattle.def_paths.specs.Places.{Place, Side, found, children}
use Rattle.def_paths.specs.Agree.{Pairs, no_pair, pair}
use Rattle.law_paths.specs.Links.{IsClosedSide, Good, Link}
use Rattle.law_paths.proofs.GoodLemmas.{children_good}
use Rattle.law_steps.specs.Linked.{Each}
use Rattle.law_paths.proofs.PairLemmas.{Then, pairs_then, pairs_back, pairs_weaker}

-- a place that is there, with itself
abbrev pub Itself : Side → Place → Place → Type 0
Itself a p q = Good a p × (p ≡ q)

pairs_itself : (a : Side) (ps : List Place) → Each (Good a) ps → Pairs (Itself a) ps ps
pairs_itself a [] h = no_pair
pairs_itself a (p ∷ ps) h = pair (h.0, refl) (pairs_itself a ps h.1)

pub link_itself : (a : Side) → IsClosedSide a → Link a a (Itself a)
link_itself a h = record {
  left = λ p q r. r.0;
  right = λ p q r. subst (Good a) r.1 r.0;
  same = λ p q r. ap (found a) r.1;
  next = λ p q r. subst (λ x. Pairs (Itself a) (children a p) (children a x)) r.1 (pairs_itself a (children a p) (children_good a h p r.0));
  once = λ p q r x y. sym x.1 ∙ y.1;
  back = λ p q r x y. x.1 ∙ sym y.1;
}

abbrev pub Back : (Place → Place → Type 0) → Place → Place → Type 0
Back R q p = R p q

pub link_back : (a b : Side) (R : Place → Place → Type 0) → Link a b R → Link b a (Back R)
link_back a b R l = record {
  left = λ q p r. l.right p q r;
  right = λ q p r. l.left p q r;
  same = λ q p r. sym (l.same p q r);
  next = λ q p r. pairs_back R _ _ (l.next p q r);
  once = λ q p p' r r'. l.back p p' q r r';
  back = λ q q' p r r'. l.once p q q' r r';
}

pub link_then : (a b c : Side) (R S : Place → Place → Type 0) → Link a b R → Link b c S → Link a c (Then R S)
link_then a b c R S l k = record {
  left = λ p r x. l.left p x.0 x.1;
  right = λ p r x. k.right x.0 r x.2;
  same = λ p r x. l.same p x.0 x.1 ∙ k.same x.0 r x.2;
  next = λ p r x. pairs_then R S _ _ _ (l.next p x.0 x.1) (k.next x.0 r x.2);
  once = λ p r r' x y. k.once x.0 r r' x.2 (subst (λ q. S q r') (sym (l.once p x.0 y.0 x.1 y.1)) y.2);
  back = λ p p' r x y. l.back p p' x.0 x.1 (subst (R p') (sym (k.back x.0 y.0 r x.2 y.2)) y.1);
}

-- the pairs of either relation
abbrev pub Or : (R S : Place → Place → Type 0) → Place → Place → Type 0
Or R S p q = R p q ⊎ S p q

-- what further pairs need to join a link
pub record Joining (a b : Side) (R S : Place → Place → Type 0) : Type 0 where
  pub left : (p q : Place) → S p q → Good a p
  pub right : (p q : Place) → S p q → Good b q
  pub same : (p q : Place) → S p q → found a p ≡ found b q
  pub next : (p q : Place) → S p q → Pairs (Or R S) (children a p) (children b q)
  pub once : (p q r : Place) → S p q → S p r → q ≡ r
  pub back : (p q r : Place) → S p r → S q r → p ≡ q
  pub apart : (p q r : Place) → R p q → S p r → ⊥
  pub apart_back : (p q r : Place) → R p r → S q r → ⊥

pub link_join : (a b : Side) (R S : Place → Place → Type 0) → Link a b R → Joining a b R S → Link a b (Or R S)
link_join a b R S l j = record {
  left = λ p q. ⊎_elim (l.left p q) (j.left p q);
  right = λ p q. ⊎_elim (l.right p q) (j.right p q);
  same = λ p q. ⊎_elim (l.same p q) (j.same p q);
  next = λ p q. ⊎_elim (λ r. pairs_weaker R (Or R S) (λ x y. inl) _ _ (l.next p q r)) (j.next p q);
  once = λ p q r x y. ⊎_elim (λ u. ⊎_elim (λ v. l.once p q r u v) (λ v. absurd (j.apart p q r u v)) y) (λ u. ⊎_elim (λ v. absurd (j.apart p r q v u)) (λ v. j.once p q r u v) y) x;
  back = λ p q r x y. ⊎_elim (λ u. ⊎_elim (λ v. l.back p q r u v) (λ v. absurd (j.apart_back p q r u v)) y) (λ u. ⊎_elim (λ v. absurd (j.apart_back q p r v u)) (λ v. j.back p q r u v) y) x;
}

-- one pair
abbrev pub Just : Place → Place → Place → Place → Type 0
Just p q x y = (x ≡ p) × (y ≡ q)

-- two further places that show the same, and lead to related places
pub link_with : (a b : Side) (R : Place → Place → Type 0) → Link a b R → (p q : Place) → Good a p → Good b q → found a p ≡ found b q → Pairs R (children a p) (children b q)
    → ((y : Place) → R p y → ⊥) → ((x : Place) → R x q → ⊥) → Link a b (Or R (Just p q))
link_with a b R l p q gp gq same next new new_back = link_join a b R (Just p q) l (record {
  left = λ x y e. subst (Good a) (sym e.0) gp;
  right = λ x y e. subst (Good b) (sym e.1) gq;
  same = λ x y e. ap (found a) e.0 ∙ same ∙ sym (ap (found b) e.1);
  next = λ x y e. subst (λ z. Pairs (Or R (Just p q)) (children a z) (children b y)) (sym e.0) (subst (λ z. Pairs (Or R (Just p q)) (children a p) (children b z)) (sym e.1) (pairs_weaker R (Or R (Just p q)) (λ x y. inl) _ _ next));
  once = λ x y z e d. e.1 ∙ sym d.1;
  back = λ x y z e d. e.0 ∙ sym d.0;
  apart = λ x y z r e. new y (subst (λ k. R k y) e.0 r);
  apart_back = λ x y z r e. new_back x (subst (R x) e.1 r);
})

-- fewer pairs, as long as they lead to each other
pub link_within : (a b : Side) (R S : Place → Place → Type 0) → Link a b R → ((p q : Place) → S p q → R p q) → ((p q : Place) → S p q → Pairs S (children a p) (children b q)) → Link a b S
link_within a b R S l to next = record {
  left = λ p q r. l.left p q (to p q r);
  right = λ p q r. l.right p q (to p q r);
  same = λ p q r. l.same p q (to p q r);
  next = next;
  once = λ p q r x y. l.once p q r (to p q x) (to p r y);
  back = λ p q r x y. l.back p q r (to p r x) (to q r y);
}
