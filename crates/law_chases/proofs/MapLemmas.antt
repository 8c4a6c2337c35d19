-- Maps as lists of entries in the order of their keys.
use Rattle.std.specs.Prelude.{◌≡◌, ◌≢◌, ◌+◌, ◌≤◌, Bool, true, false, cond, T, List, Some, None, length, is_some}
use Rattle.std.proofs.Common.{refl, sym, ap, subst, ◌∙◌, arith, inl, inr, ⊎_elim, ◌⊎◌}
use Rattle.std.specs.declared.cmp.Ordering.{Ordering}
use Rattle.std.specs.declared.cmp.Ordering.TheVariants.{Less, Equal, Greater}
use Rattle.std.specs.Ordering.{is_eq, eq_by_cmp}
use Rattle.std.specs.Cmp.{IsTotalOrder, tied_itself}
use Rattle.std.specs.FinMap.{IsAntisymmetric, find, put, is_sorted}
use Rattle.std.specs.FinMap.Entries.{is_sorted-put, find-put, same_entries, length-put}

apart_test : (r : Ordering) → r ≢ Equal → is_eq r ≡ false
apart_test Less h = refl
apart_test Equal h = absurd (h refl)
apart_test Greater h = refl

equal_of : (r : Ordering) → is_eq r ≡ true → r ≡ Equal
equal_of Less h = absurd (subst T (sym h) tt)
equal_of Equal h = refl
equal_of Greater h = absurd (subst T (sym h) tt)

both_no : {A : Type 0} (a b : Bool) (x y z : A) → (a ≡ true → b ≡ true → x ≡ y) → cond a x (cond b y z) ≡ cond b y (cond a x z)
both_no true true x y z h = h refl refl
both_no true false x y z h = refl
both_no false true x y z h = refl
both_no false false x y z h = refl

pub key_case : {K : Type 0} (R : K → K → Ordering) (o : IsTotalOrder R) (same : IsAntisymmetric R) → (x y : K) → (x ≡ y) ⊎ (x ≢ y)
key_case R o same x y = elim (R x y) as (λ r. R x y ≡ r → (x ≡ y) ⊎ (x ≢ y)) [
  | Equal ↦ λ e. inl (same x y e)
  | Less ↦ λ e. inr (λ p. subst (λ r. T (is_eq r)) (sym (tied_itself o x) ∙ ap (R x) p ∙ e) tt)
  | Greater ↦ λ e. inr (λ p. subst (λ r. T (is_eq r)) (sym (tied_itself o x) ∙ ap (R x) p ∙ e) tt)
] refl

module _ {K X : Type 0} (R : K → K → Ordering) (o : IsTotalOrder R) (same : IsAntisymmetric R) where
  -- two keys that differ may be written in either order
  pub put_put : (k j : K) (v w : X) (es : List (K × X)) → T (is_sorted R es) → (k ≢ j) → put R k v (put R j w es) ≡ put R j w (put R k v es)
  put_put k j v w es h apart = same_entries R o same _ _ (is_sorted-put R o k v _ (is_sorted-put R o j w es h)) (is_sorted-put R o j w _ (is_sorted-put R o k v es h))
      (λ q. find-put R o q k v _ ∙ ap (cond (eq_by_cmp R q k) (Some v)) (find-put R o q j w es)
      ∙ both_no (eq_by_cmp R q k) (eq_by_cmp R q j) (Some v) (Some w) (find R q es) (λ a b. absurd (apart (sym (same q k (equal_of _ a)) ∙ same q j (equal_of _ b))))
      ∙ sym (find-put R o q j w _ ∙ ap (cond (eq_by_cmp R q j) (Some w)) (find-put R o q k v es)))

  pub find_other : (q k : K) (v : X) (es : List (K × X)) → (q ≢ k) → find R q (put R k v es) ≡ find R q es
  find_other q k v es apart = find-put R o q k v es ∙ ap (λ b. cond b (Some v) (find R q es)) (apart_test (R q k) (λ e. apart (same q k e)))

  pub find_same : (k : K) (v : X) (es : List (K × X)) → find R k (put R k v es) ≡ Some v
  find_same k v es = find-put R o k k v es ∙ ap (λ r. cond (is_eq r) (Some v) (find R k es)) (tied_itself o k)

  pub longer : (k : K) (v : X) (es : List (K × X)) → T (is_sorted R es) → length es ≤ length (put R k v es)
  longer k v es h = let e = length-put R o k v es h in
      elim (is_some (find R k es)) as (λ b. length (put R k v es) ≡ cond b (length es) (length es + 1) → length es ≤ length (put R k v es)) [ true ↦ λ e. omega (arith, e) | false ↦ λ e. omega (arith, e) ] e

  -- what is found stays found when a new key is written
  pub put_extends : (k : K) (v : X) (es : List (K × X)) → find R k es ≡ None → (q : K) (y : X) → find R q es ≡ Some y → find R q (put R k v es) ≡ Some y
  put_extends k v es none q y is = ⊎_elim (λ e. absurd (subst (λ o. T (is_some o)) (sym is ∙ ap (λ x. find R x es) e ∙ none) tt)) (λ apart. find_other q k v es apart ∙ is) (key_case R o same q k)

  pub stays_there : (k : K) (v : X) (es : List (K × X)) (q : K) → is_some (find R q es) ≡ true → is_some (find R q (put R k v es)) ≡ true
  stays_there k v es q is = ap is_some (find-put R o q k v es) ∙ elim (eq_by_cmp R q k) as (λ b. is_some (cond b (Some v) (find R q es)) ≡ true) [ true ↦ refl | false ↦ is ]
