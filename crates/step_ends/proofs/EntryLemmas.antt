-- Entries in ascending order of names.
use Rattle.std.proofs.Common.{◌≡◌, ◌≢◌, ◌&&◌, ◌∷◌, [], Bool, true, false, cond, T, List, Some, None, refl, sym, ap, subst, ◌∙◌}
use Rattle.std.specs.List.{AllByRecursion}
use Rattle.std.specs.List.Sorted.{IsStrictlySortedBy}
use Rattle.std.specs.FinMap.{find, is_sorted}
use Rattle.std.specs.FinMap.Entries.{below_all}
use Rattle.std.specs.Map.{keys_of, lookup}
use Rattle.std.specs.BTreeMap.{is_at}
use Rattle.std.specs.Cmp.{tied_itself}
use Rattle.std.specs.Ordering.{is_eq, is_lt}
use Rattle.std.specs.declared.cmp.Ordering.{Ordering}
use Rattle.std.specs.declared.cmp.Ordering.TheVariants.{Less, Equal, Greater}
use Rattle.asp_model.specs.Names.{Name, name_cmp}
use Rattle.law_steps.proofs.EntryLemmas.{first_of_both, second_of_both}
use Rattle.law_steps.proofs.NameLemmas.{name_total, names_apart}

both_hold : (a b : Bool) → T a → T b → T (a && b)
both_hold true b h k = k
both_hold false b h k = absurd h

lt_of : (r : Ordering) → r ≡ Less → T (is_lt r)
lt_of r e = subst (λ s. T (is_lt s)) (sym e) tt

pub less_of : (r : Ordering) → T (is_lt r) → r ≡ Less
less_of Less h = refl
less_of Equal h = absurd h
less_of Greater h = absurd h

module _ {X : Type 0} where
  pub lookup_find : (n : Name) (es : List (Name × X)) → lookup (is_at (name_cmp n)) es ≡ find name_cmp n es
  lookup_find n [] = refl
  lookup_find n (e ∷ es) = ap (λ o. cond (is_eq (name_cmp n e.0)) (Some e.1) o) (lookup_find n es)

  below_by : (k : Name) (es : List (Name × X)) → AllByRecursion (λ y. name_cmp k y ≡ Less) (keys_of es) → T (below_all name_cmp k es)
  below_by k [] h = tt
  below_by k (e ∷ es) h = both_hold (is_lt (name_cmp k e.0)) (below_all name_cmp k es) (lt_of (name_cmp k e.0) h.0) (below_by k es h.1)

  pub sorted_by : (es : List (Name × X)) → IsStrictlySortedBy name_cmp (keys_of es) → T (is_sorted name_cmp es)
  unfolding IsStrictlySortedBy
  sorted_by [] h = tt
  sorted_by (e ∷ es) h = both_hold (below_all name_cmp e.0 es) (is_sorted name_cmp es) (below_by e.0 es h.0) (sorted_by es h.1)

  pub find_head : (e : Name × X) (es : List (Name × X)) → find name_cmp e.0 (e ∷ es) ≡ Some e.1
  find_head e es = ap (λ r. cond (is_eq r) (Some e.1) (find name_cmp e.0 es)) (tied_itself name_total e.0)

  pub find_skip : (q : Name) (e : Name × X) (es : List (Name × X)) → q ≢ e.0 → find name_cmp q (e ∷ es) ≡ find name_cmp q es
  find_skip q e es d = ap (λ b. cond b (Some e.1) (find name_cmp q es)) (names_apart q e.0 d)

  pub absent_below : (k : Name) (es : List (Name × X)) → T (below_all name_cmp k es) → find name_cmp k es ≡ None
  absent_below k [] h = refl
  absent_below k (e ∷ es) h = ap (λ r. cond (is_eq r) (Some e.1) (find name_cmp k es)) (less_of (name_cmp k e.0) (first_of_both _ _ h)) ∙ absent_below k es (second_of_both _ _ h)

  below_less : (k j : Name) (es : List (Name × X)) → name_cmp k j ≡ Less → T (below_all name_cmp j es) → T (below_all name_cmp k es)
  below_less k j [] l h = tt
  below_less k j (e ∷ es) l h = both_hold (is_lt (name_cmp k e.0)) (below_all name_cmp k es) (lt_of (name_cmp k e.0) (name_total.trans k j e.0 l (less_of (name_cmp j e.0) (first_of_both _ _ h)))) (below_less k j es l (second_of_both _ _ h))

  -- a name before all entries
  pub absent_less : (k : Name) (e : Name × X) (es : List (Name × X)) → name_cmp k e.0 ≡ Less → T (is_sorted name_cmp (e ∷ es)) → find name_cmp k (e ∷ es) ≡ None
  absent_less k e es l h = ap (λ r. cond (is_eq r) (Some e.1) (find name_cmp k es)) l ∙ absent_below k es (below_less k e.0 es l (first_of_both _ _ h))
