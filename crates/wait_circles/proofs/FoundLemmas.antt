-- What is found grows by one walk.
use Rattle.std.proofs.Common.{◌≡◌, ◌<◌, ◌≤◌, ◌+◌, ◌⊎◌, ℕ, zero, suc, nat_eq, Bool, true, false, List, [], ◌∷◌, ◌++◌, Option, Some, length, refl, sym, ap, subst, ◌∙◌, inl, inr, arith}
use Rattle.std.proofs.lemmas.Bool.{eqb-false}
use Rattle.std.specs.List.{slice_get}
use Rattle.law_steps.specs.Linked.{Each}
use Rattle.law_chases.proofs.FutureLemmas.{no_some, some_is, none_true, true_false}
use Rattle.law_waits.specs.Courses.{ComesTo, GoesThrough, IsCircle, items_after}
use Rattle.wait_circles.specs.declared.ways.Circle.{Circle}
use Rattle.wait_circles.specs.declared.ways.End.{End}
use Rattle.wait_circles.specs.declared.ways.End.TheVariants.{Last, Round}
use Rattle.wait_circles.specs.declared.ways.Found.{Found}
use Rattle.wait_circles.specs.declared.ways.Mark.{Mark}
use Rattle.wait_circles.specs.declared.ways.Mark.TheVariants.{Fresh, Passed, Ends}
use Rattle.wait_circles.specs.Ways.{next_in, AreEnds, IsCircleOf, IsEnd}
use Rattle.wait_circles.specs.Walks.{mark_at, is_passed, is_settled, has, AreEndsIn, AreTold, IsFound, IsPathEnd, IsSettledBy, IsWalked, KeepsCircles}
use Rattle.wait_circles.proofs.WalkLemmas.{mark_if, or_has, tied}

-- Ways one after the other

module _ (next : ℕ → Option ℕ) where
  through_join : (x : ℕ) (xs : List ℕ) (y : ℕ) (ys : List ℕ) (z : ℕ) → GoesThrough next x xs y → GoesThrough next y ys z → GoesThrough next x (xs ++ y ∷ ys) z
  through_join x [] y ys z g h = (g, h)
  through_join x (w ∷ xs) y ys z g h = (g.0, through_join w xs y ys z g.1 h)

  pub comes_on : (x y z : ℕ) → ComesTo next x y → ComesTo next y z → ComesTo next x z
  comes_on x y z (inl e) d = subst (λ w. ComesTo next w z) (sym e) d
  comes_on x y z (inr (xs, g)) (inl e) = inr (xs, subst (λ w. GoesThrough next x xs w) e g)
  comes_on x y z (inr (xs, g)) (inr (ys, h)) = inr (xs ++ y ∷ ys, through_join x xs y ys z g h)

-- the end of one to which another comes is that of the other
end_on : (ns : List (Option ℕ)) (zs : List Circle) (x y : ℕ) (e : End) → ComesTo (next_in ns) x y → IsEnd ns zs y e → IsEnd ns zs x e
end_on ns zs x y (Last j) c h = (comes_on (next_in ns) x y j c h.0, h.1)
end_on ns zs x y (Round k) c h = (h.0, h.1, comes_on (next_in ns) x y h.0.first c h.2)

-- Circles that are kept

slice_left : {X : Type 0} (xs : List X) (y : X) (k : ℕ) (x : X) → slice_get xs k ≡ Some x → slice_get (xs ++ y ∷ []) k ≡ Some x
slice_left [] y k x h = no_some h
slice_left (w ∷ xs) y zero x h = h
slice_left (w ∷ xs) y (suc k) x h = slice_left xs y k x h

slice_last : {X : Type 0} (xs : List X) (y : X) → slice_get (xs ++ y ∷ []) (length xs) ≡ Some y
slice_last [] y = refl
slice_last (w ∷ xs) y = slice_last xs y

slice_split : {X : Type 0} (xs : List X) (y : X) (k : ℕ) (x : X) → slice_get (xs ++ y ∷ []) k ≡ Some x → (slice_get xs k ≡ Some x) ⊎ (y ≡ x)
slice_split [] y zero x h = inr (some_is h)
slice_split [] y (suc k) x h = no_some h
slice_split (w ∷ xs) y zero x h = inl h
slice_split (w ∷ xs) y (suc k) x h = slice_split xs y k x h

end_kept : (ns : List (Option ℕ)) (old new : List Circle) (k : ℕ) (e : End) → KeepsCircles old new → IsEnd ns old k e → IsEnd ns new k e
end_kept ns old new k (Last j) s h = h
end_kept ns old new k (Round i) s h = (h.0, s i h.0 h.1, h.2)

each_by_all : (P Q : ℕ → Type 0) (xs : List ℕ) → ((x : ℕ) → P x → Q x) → Each P xs → Each Q xs
each_by_all P Q [] f e = tt
each_by_all P Q (x ∷ xs) f e = (f x e.0, each_by_all P Q xs f e.1)

-- the end of a path that comes to one whose end is known
pub known_end : (ns : List (Option ℕ)) (zs : List Circle) (ms : List Mark) (path : List ℕ) (j : ℕ) (e : End) → Each (λ k. ComesTo (next_in ns) k j) path → mark_at ms j ≡ Ends e → AreEndsIn ns zs ms → IsPathEnd ns zs zs path e
known_end ns zs ms path j e all m h = record {
  keeps = λ k z q. q;
  circles = λ c. c;
  ends = each_by_all (λ k. ComesTo (next_in ns) k j) (λ k. IsEnd ns zs k e) path (λ k c. end_on ns zs k j e c (h j e m)) all;
}

-- the end of a path that comes back to one of its own
pub round_end : (ns : List (Option ℕ)) (zs new : List Circle) (path : List ℕ) (z : Circle) → new ≡ zs ++ z ∷ [] → z.others.items ≡ items_after nat_eq z.first path → Each (λ k. ComesTo (next_in ns) k z.first) path → IsCircle (next_in ns) z.first (items_after nat_eq z.first path) → IsPathEnd ns zs new path (Round (length zs))
round_end ns zs new path z e is all c = subst (λ (l : List Circle). IsPathEnd ns zs l path (Round (length zs))) (sym e) (record {
  keeps = λ k y q. slice_left zs z k y q;
  circles = λ h k y q. by_place y (h k y) (slice_split zs z k y q);
  ends = each_by_all (λ k. ComesTo (next_in ns) k z.first) (λ k. IsEnd ns (zs ++ z ∷ []) k (Round (length zs))) path (λ k d. (z, slice_last zs z, d)) all;
})
  where
    here : IsCircleOf ns z
    here = subst (λ (l : List ℕ). IsCircle (next_in ns) z.first l) (sym is) c

    by_place : (y : Circle) {P : Type 0} → (P → IsCircleOf ns y) → P ⊎ (z ≡ y) → IsCircleOf ns y
    by_place y f (inl p) = f p
    by_place y f (inr d) = subst (IsCircleOf ns) d here

-- Marks

settled_is : (m : Mark) → is_settled m ≡ true → (e : End) × (m ≡ Ends e)
settled_is Fresh h = none_true h
settled_is Passed h = none_true h
settled_is (Ends e) h = (e, refl)

ends_apart : (e d : End) → Ends e ≡ Ends d → e ≡ d
ends_apart e d h = let end_in : Mark → End = λ m. end_or e m in ap end_in h
  where
    end_or : End → Mark → End
    end_or x Fresh = x
    end_or x Passed = x
    end_or x (Ends y) = y

has_all : (P : ℕ → Type 0) (k : ℕ) (xs : List ℕ) → Each P xs → has k xs ≡ true → P k
has_all P k [] e h = none_true h
has_all P k (x ∷ xs) e h = elim (nat_eq k x) as (λ b. nat_eq k x ≡ b → or_has b (has k xs) ≡ true → P k) [
  | true ↦ λ q d. subst P (sym (tied k x q)) e.0
  | false ↦ λ q d. has_all P k xs e.1 d
] refl h

below : (k from : ℕ) → k < from + 1 → (k ≡ from → ⊥) → k < from
below k from l d = omega (arith, l, d)

-- one more of which the end was known
pub found_same : (ns : List (Option ℕ)) (f : Found) (from : ℕ) → IsFound ns f from → is_settled (mark_at f.marks.items from) ≡ true → IsFound ns f (from + 1)
found_same ns f from h s = record { size = h.size; circles = h.circles; ends = h.ends; rests = h.rests; settled = λ k l. by_test k l (nat_eq k from) refl }
  where
    by_test : (k : ℕ) → k < from + 1 → (b : Bool) → nat_eq k from ≡ b → is_settled (mark_at f.marks.items k) ≡ true
    by_test k l true q = subst (λ j. is_settled (mark_at f.marks.items j) ≡ true) (sym (tied k from q)) s
    by_test k l false q = h.settled k (below k from l (eqb-false k from q))

-- one more by a walk
pub found_more : (ns : List (Option ℕ)) (f g : Found) (from : ℕ) (ms : List Mark) (path : List ℕ) (e : End) → IsFound ns f from → IsWalked ns f.marks.items path ms → has from path ≡ true → IsPathEnd ns f.circles.items g.circles.items path e → IsSettledBy e path ms g.marks.items → length g.marks.items ≡ length f.marks.items → IsFound ns g (from + 1)
found_more ns f g from ms path e h w b p s size = record {
  size = size ∙ h.size;
  circles = p.circles h.circles;
  ends = λ k x q. ends_by k x (has k path) refl (sym (s k) ∙ q);
  rests = λ k. ap is_passed (s k) ∙ rests_by k (has k path) refl;
  settled = λ k l. ap is_settled (s k) ∙ settled_by k l (has k path) refl;
}
  where
    ends_by : (k : ℕ) (x : End) (t : Bool) → has k path ≡ t → mark_if t (Ends e) (mark_at ms k) ≡ Ends x → IsEnd ns g.circles.items k x
    ends_by k x true q d = subst (IsEnd ns g.circles.items k) (ends_apart e x d) (has_all (λ j. IsEnd ns g.circles.items j e) k path p.ends q)
    ends_by k x false q d = end_kept ns f.circles.items g.circles.items k x p.keeps (h.ends k x (w.ends k x d))

    passed_by : (k : ℕ) → has k path ≡ false → (t : Bool) → is_passed (mark_at ms k) ≡ t → is_passed (mark_at ms k) ≡ false
    passed_by k q true d = absurd (true_false (has k path) (w.passed k d) q)
    passed_by k q false d = d

    rests_by : (k : ℕ) (t : Bool) → has k path ≡ t → is_passed (mark_if t (Ends e) (mark_at ms k)) ≡ false
    rests_by k true q = refl
    rests_by k false q = passed_by k q (is_passed (mark_at ms k)) refl

    settled_by : (k : ℕ) → k < from + 1 → (t : Bool) → has k path ≡ t → is_settled (mark_if t (Ends e) (mark_at ms k)) ≡ true
    settled_by k l true q = refl
    settled_by k l false q =
        let x = settled_is (mark_at f.marks.items k) (h.settled k (below k from l (λ d. true_false (has k path) (ap (λ j. has j path) d ∙ b) q))) in
        ap is_settled (w.kept k x.0 x.1)

-- what is found in the end
pub ends_found : (ns : List (Option ℕ)) (f : Found) (n : ℕ) (es : List End) → IsFound ns f n → length ns ≤ n → AreTold f.marks.items es → AreEnds ns f.circles.items es
ends_found ns f n es h e told i l =
    let x = settled_is (mark_at f.marks.items i) (h.settled i (omega (arith, l, e))) in
    (x.0, told i x.0 x.1, h.ends i x.0 x.1)
