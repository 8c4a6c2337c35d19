-- Entries of maps in ascending order, found by their names.
use Rattle.std.specs.Prelude.{◌≡◌, ◌≢◌, ◌&&◌, Bool, true, false, cond, T, List, [], ◌∷◌, Some}
use Rattle.std.proofs.Common.{refl, sym, ap, subst, ◌∙◌, inl, inr, ⊎_elim, ◌⊎◌}
use Rattle.std.specs.FinMap.{find, is_sorted}
use Rattle.std.specs.FinMap.Entries.{below_all}
use Rattle.std.specs.Ordering.{is_eq, is_lt}
use Rattle.std.specs.Cmp.{tied_itself}
use Rattle.asp_model.specs.Names.{Name, name_cmp}
use Rattle.law_steps.proofs.NameLemmas.{name_total, name_case, names_apart}
use Rattle.law_chases.proofs.FutureLemmas.{no_some, some_is}

abbrev pub In : {A : Type 0} → A → List A → Type 0
In x [] = ⊥
In x (y ∷ ys) = (x ≡ y) ⊎ In x ys

pub first_of_both : (a b : Bool) → T (a && b) → T a
first_of_both true b p = tt
first_of_both false b p = absurd p

pub second_of_both : (a b : Bool) → T (a && b) → T b
second_of_both true b p = p
second_of_both false b p = absurd p

module _ {X : Type 0} where
  pub below_apart : (k : Name) (es : List (Name × X)) (x : Name × X) → T (below_all name_cmp k es) → In x es → x.0 ≢ k
  below_apart k [] x h i = absurd i
  below_apart k (e ∷ es) x h (inl p) = λ q. subst (λ r. T (is_lt r)) (ap (name_cmp k) (ap (λ z. z.0) (sym p) ∙ q) ∙ tied_itself name_total k) (first_of_both _ _ h)
  below_apart k (e ∷ es) x h (inr i) = below_apart k es x (second_of_both _ _ h) i

  -- an entry is found at its name
  pub entry_found : (es : List (Name × X)) (x : Name × X) → T (is_sorted name_cmp es) → In x es → find name_cmp x.0 es ≡ Some x.1
  entry_found [] x h i = absurd i
  entry_found (e ∷ es) x h (inl p) = ap (λ k. find name_cmp k (e ∷ es)) (ap (λ z. z.0) p) ∙ ap (λ r. cond (is_eq r) (Some e.1) (find name_cmp e.0 es)) (tied_itself name_total e.0) ∙ ap (λ z. Some z.1) (sym p)
  entry_found (e ∷ es) x h (inr i) = ap (λ b. cond b (Some e.1) (find name_cmp x.0 es)) (names_apart x.0 e.0 (below_apart e.0 es x (first_of_both _ _ h) i)) ∙ entry_found es x (second_of_both _ _ h) i

  -- what is found is an entry
  pub found_entry : (es : List (Name × X)) (q : Name) (a : X) → find name_cmp q es ≡ Some a → (x : Name × X) × In x es × (x.0 ≡ q) × (x.1 ≡ a)
  found_entry [] q a h = no_some h
  found_entry (e ∷ es) q a h = ⊎_elim
      (λ p. (e, inl refl, sym p, some_is (sym (ap (λ r. cond (is_eq r) (Some e.1) (find name_cmp q es)) (ap (name_cmp q) (sym p) ∙ tied_itself name_total q)) ∙ h)))
      (λ b. let r = found_entry es q a (sym (ap (λ b. cond b (Some e.1) (find name_cmp q es)) (names_apart q e.0 b)) ∙ h) in (r.0, inr r.1, r.2, r.3))
      (name_case q e.0)
