-- The entries of a listener.
use Rattle.std.specs.Prelude.{◌≡◌, ◌<◌, ◌+◌, ℕ, zero, suc, ◌&&◌, Bool, true, false, cond, T, List, [], ◌∷◌, Option, Some, None, length, map}
use Rattle.indexmap.specs.IndexMap.{IndexMap, IsUnique, keys}
use Rattle.std.specs.FinMap.{find, is_sorted}
use Rattle.std.specs.FinMap.Entries.{below_all}
use Rattle.std.specs.List.{AllAdjacentBelow, AllByRecursion, IsAllAdjacentAnswer, IsDistinct}
use Rattle.std.specs.List.Sorted.{IsSorted}
use Rattle.std.specs.Map.{keys_of}
use Rattle.std.specs.declared.cmp.Ordering.{Ordering}
use Rattle.std.specs.declared.cmp.Ordering.TheVariants.{Less, Equal, Greater}
use Rattle.std.specs.Ordering.{as_partial_cmp, is_eq, is_le, is_lt, ordering_reverse, partial_le}
use Rattle.std.specs.Cmp.{IsStrictWeakOrder}
use Rattle.std.proofs.Common.{refl, sym, ap, subst, ◌∙◌, get_or, arith}
use Rattle.std.proofs.lemmas.List.Sorted.{ranks_by, sorted_far}
use Rattle.asp_model.specs.Names.{Name, name_cmp, same_name}
use Rattle.asp_model.specs.Services.{ServiceEntryShape, ServicesShape}
use Rattle.law_steps.proofs.NameLemmas.{name_total, names_tied}
use Rattle.law_services.specs.Told.{NamesAscend, by_name, entry_at, entry_or_none}
use Rattle.replay_services.specs.declared.heard.Heard.{Heard}
use Rattle.replay_services.specs.Listeners.{entry_of, heard_shape, kept_in, shape_or_nothing}

abbrev pub entry_from : Name × Heard → ServiceEntryShape
entry_from x = entry_of x.0 (heard_shape x.1)

abbrev looked : Name → List (Name × Heard) → Option Heard
looked n [] = None
looked n (x ∷ xs) = cond (same_name n x.0) (Some x.1) (looked n xs)

-- what is found among the entries is what the map has
found : (n : Name) (xs : List (Name × Heard)) → entry_or_none n (find name_cmp n (by_name (map entry_from xs))) ≡ entry_of n (shape_or_nothing (looked n xs))
found n [] = refl
found n (x ∷ xs) = elim (same_name n x.0) as (λ b. same_name n x.0 ≡ b → entry_or_none n (cond b (Some (entry_from x)) (find name_cmp n (by_name (map entry_from xs)))) ≡ entry_of n (shape_or_nothing (cond b (Some x.1) (looked n xs)))) [
  | true ↦ λ e. ap (λ k. entry_of k (heard_shape x.1)) (sym (names_tied n x.0 e))
  | false ↦ λ e. found n xs
] refl

pub entries_kept : {S : Type 0} (m : IndexMap Name Heard S) (s : ServicesShape) → s ≡ map entry_from m.entries → (n : Name) → entry_at s n ≡ entry_of n (kept_in m n)
entries_kept m s e n = ap (λ (es : ServicesShape). entry_at es n) e ∙ found n m.entries

-- names that ascend in the map ascend here

no_true : {C : Type 0} → false ≡ true → C
no_true e = absurd (subst T (sym e) tt)

strict : (k y : Name) → is_lt (name_cmp y k) ≡ false → same_name k y ≡ false → name_cmp k y ≡ Less
strict k y not apart = elim (name_cmp k y) as (λ (r : Ordering). is_lt (ordering_reverse r) ≡ false → is_eq r ≡ false → r ≡ Less) [
  | Less ↦ λ n a. refl
  | Equal ↦ λ n a. no_true (sym a)
  | Greater ↦ λ n a. no_true (sym n)
] (ap is_lt (sym (name_total.antisymm y k)) ∙ not) apart

above : (k : Name) (ks : List Name) → ((j : ℕ) (d : Name) → j < length ks → is_lt (name_cmp (get_or ks j d) k) ≡ false) → AllByRecursion (λ y. same_name k y ≡ false) ks → AllByRecursion (λ y. name_cmp k y ≡ Less) ks
above k [] up apart = tt
above k (y ∷ ks) up apart = (strict k y (up zero k (omega arith)) apart.0, above k ks (λ j d below. up (suc j) d (omega arith)) apart.1)

rises_below : (k : Name) (xs : List (Name × Heard)) → AllByRecursion (λ n. name_cmp k n ≡ Less) (keys_of xs) → T (below_all name_cmp k (by_name (map entry_from xs)))
rises_below k [] h = tt
rises_below k (x ∷ xs) h = subst (λ o. T (is_lt o && below_all name_cmp k (by_name (map entry_from xs)))) (sym h.0) (rises_below k xs h.1)

both : (a b : Bool) → T a → T b → T (a && b)
both true b h g = g
both false b h g = absurd h

later : (k : Name) (ks : List Name) → IsSorted name_cmp (k ∷ ks) → IsSorted name_cmp ks
later k ks up j d low high =
    let next : suc j + 1 ≡ suc (j + 1) = omega arith in
    subst (λ i. is_lt (name_cmp (get_or (k ∷ ks) i d) (get_or (k ∷ ks) (suc j) d)) ≡ false) next (up (suc j) d (omega arith) (omega arith))

rises : (xs : List (Name × Heard)) → IsSorted name_cmp (keys_of xs) → IsDistinct same_name (keys_of xs) → T (is_sorted name_cmp (by_name (map entry_from xs)))
unfolding IsDistinct
rises [] up apart = tt
rises (x ∷ xs) up apart =
    let order : IsStrictWeakOrder (λ (n m : Name). is_lt (name_cmp n m)) = ranks_by name_total (λ (n : Name). n) in
    both _ _
    (rises_below x.0 xs (above x.0 (keys_of xs) (λ j d below. sorted_far (λ (n m : Name). is_lt (name_cmp n m)) order (x.0 ∷ keys_of xs) up zero (suc j) d (omega arith) (omega arith)) apart.0))
    (rises xs (later x.0 (keys_of xs) up) apart.1)

pub entries_ascend : {S : Type 0} (m : IndexMap Name Heard S) (s : ServicesShape) → s ≡ map entry_from m.entries → IsSorted name_cmp (keys m) → IsUnique same_name m → NamesAscend s
entries_ascend m s e up apart = subst (λ (es : ServicesShape). NamesAscend es) (sym e) (rises m.entries up apart)

-- where each name is at most the next, they are sorted
pub in_order_already : (es fs : List (Name × Heard)) (b : Bool) → fs ≡ es → IsAllAdjacentAnswer (λ n m b. partial_le (as_partial_cmp name_cmp) n m ≡ b) (keys_of fs) b → b ≡ true → IsSorted name_cmp (keys_of es)
in_order_already es fs b same answer held =
    let sorted : AllAdjacentBelow (λ n m. partial_le (as_partial_cmp name_cmp) n m ≡ true) (keys_of es) (length (keys_of es)) =
    subst (λ (gs : List (Name × Heard)). IsAllAdjacentAnswer (λ n m b. partial_le (as_partial_cmp name_cmp) n m ≡ b) (keys_of gs) true) same (subst (λ c. IsAllAdjacentAnswer (λ n m b. partial_le (as_partial_cmp name_cmp) n m ≡ b) (keys_of fs) c) held answer) in
    λ k d low high. falls (get_or (keys_of es) k d) (get_or (keys_of es) (k + 1) d) (sorted k d high)
  where
    falls : (n m : Name) → is_le (name_cmp n m) ≡ true → is_lt (name_cmp m n) ≡ false
    falls n m le = ap is_lt (name_total.antisymm m n) ∙ elim (name_cmp n m) as (λ (r : Ordering). is_le r ≡ true → is_lt (ordering_reverse r) ≡ false) [
      | Less ↦ λ h. refl
      | Equal ↦ λ h. refl
      | Greater ↦ λ h. no_true h
    ] le
