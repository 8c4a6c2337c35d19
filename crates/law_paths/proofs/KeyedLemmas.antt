-- Maps with the same keys whose values are related are related entry by entry.
use Rattle.std.specs.Prelude.{◌≡◌, ◌≢◌, ◌&&◌, Bool, true, false, cond, T, List, [], ◌∷◌, Option, Some, None, map}
use Rattle.std.proofs.Common.{refl, sym, ap, subst, ◌∙◌, inl, inr}
use Rattle.std.proofs.lemmas.Bool.{false_from_ne_true}
use Rattle.std.specs.declared.cmp.Ordering.{Ordering}
use Rattle.std.specs.declared.cmp.Ordering.TheVariants.{Less, Equal, Greater}
use Rattle.std.specs.Ordering.{is_eq, is_lt}
use Rattle.std.specs.Cmp.{IsTotalOrder, tied_itself}
use Rattle.std.specs.FinMap.{IsAntisymmetric, find, is_sorted}
use Rattle.std.specs.FinMap.Entries.{same_entries, below_all}
use Rattle.law_chases.proofs.FutureLemmas.{no_some, none_true}
use Rattle.law_steps.proofs.EntryLemmas.{In, first_of_both, second_of_both}
use Rattle.def_paths.specs.Agree.{Pairs, no_pair, pair, MayBoth, neither, both}

equal_if : (r : Ordering) → is_eq r ≡ true → r ≡ Equal
equal_if Less h = none_true h
equal_if Equal h = refl
equal_if Greater h = none_true h

both_if : (a b : Bool) → T a → T b → T (a && b)
both_if true b p q = q
both_if false b p q = absurd p

-- Heads and tails of lists of keys

abbrev first_key : {K : Type 0} → List (K × Bool) → Option K
first_key [] = None
first_key (z ∷ zs) = Some z.0

abbrev key_or : {K : Type 0} → K → List (K × Bool) → K
key_or k [] = k
key_or k (z ∷ zs) = z.0

abbrev rest : {K : Type 0} → List (K × Bool) → List (K × Bool)
rest [] = []
rest (z ∷ zs) = zs

module _ {K : Type 0} (R : K → K → Ordering) (o : IsTotalOrder R) (same : IsAntisymmetric R) where
  apart_keys : (x y : K) → x ≢ y → is_eq (R x y) ≡ false
  apart_keys x y apart = false_from_ne_true (is_eq (R x y)) (λ h. apart (same x y (equal_if (R x y) h)))

  module _ {X : Type 0} where
    apart_below : (k : K) (es : List (K × X)) (x : K × X) → T (below_all R k es) → In x es → x.0 ≢ k
    apart_below k [] x h i = absurd i
    apart_below k (e ∷ es) x h (inl p) = λ q. subst (λ r. T (is_lt r)) (ap (R k) (ap (λ z. z.0) (sym p) ∙ q) ∙ tied_itself o k) (first_of_both _ _ h)
    apart_below k (e ∷ es) x h (inr i) = apart_below k es x (second_of_both _ _ h) i

    -- an entry is found at its key
    pub found_at_key : (es : List (K × X)) (x : K × X) → T (is_sorted R es) → In x es → find R x.0 es ≡ Some x.1
    found_at_key [] x h i = absurd i
    found_at_key (e ∷ es) x h (inl p) = ap (λ k. find R k (e ∷ es)) (ap (λ z. z.0) p) ∙ ap (λ r. cond (is_eq r) (Some e.1) (find R e.0 es)) (tied_itself o e.0) ∙ ap (λ z. Some z.1) (sym p)
    found_at_key (e ∷ es) x h (inr i) = ap (λ b. cond b (Some e.1) (find R x.0 es)) (apart_keys x.0 e.0 (apart_below e.0 es x (first_of_both _ _ h) i)) ∙ found_at_key es x (second_of_both _ _ h) i

    -- keys alone

    abbrev pub keyed : List (K × X) → List (K × Bool)
    keyed es = map (λ e. (e.0, true)) es

    keyed_below : (k : K) (es : List (K × X)) → T (below_all R k es) → T (below_all R k (keyed es))
    keyed_below k [] h = tt
    keyed_below k (e ∷ es) h = both_if _ _ (first_of_both _ _ h) (keyed_below k es (second_of_both _ _ h))

    keyed_sorted : (es : List (K × X)) → T (is_sorted R es) → T (is_sorted R (keyed es))
    keyed_sorted [] h = tt
    keyed_sorted (e ∷ es) h = both_if _ _ (keyed_below e.0 es (first_of_both _ _ h)) (keyed_sorted es (second_of_both _ _ h))

    abbrev there : Option X → Option Bool
    there None = None
    there (Some x) = Some true

    found_keyed : (q : K) (es : List (K × X)) → find R q (keyed es) ≡ there (find R q es)
    found_keyed q [] = refl
    found_keyed q (e ∷ es) = elim (is_eq (R q e.0)) as (λ b. cond b (Some true) (find R q (keyed es)) ≡ there (cond b (Some e.1) (find R q es))) [ true ↦ refl | false ↦ found_keyed q es ]

  module _ {X Y : Type 0} (S : K → X → Y → Type 0) where
    entry_by_entry : (es : List (K × X)) (fs : List (K × Y)) → keyed es ≡ keyed fs → ((q : K) (a : X) (b : Y) → In (q, a) es → In (q, b) fs → S q a b) → Pairs (λ x y. (x.0 ≡ y.0) × S x.0 x.1 y.1) es fs
    entry_by_entry [] [] e to = no_pair
    entry_by_entry [] (y ∷ ys) e to = no_some (ap first_key e)
    entry_by_entry (x ∷ xs) [] e to = no_some (sym (ap first_key e))
    entry_by_entry (x ∷ xs) (y ∷ ys) e to =
        let head : x.0 ≡ y.0 = ap (key_or x.0) e in
        pair (head, to x.0 x.1 y.1 (inl refl) (inl (λ i. (head i, y.1)))) (entry_by_entry xs ys (ap rest e) (λ q a b i j. to q a b (inr i) (inr j)))

    both_there : (u : Option X) (v : Option Y) (q : K) → MayBoth (S q) u v → there u ≡ there v
    both_there _ _ q neither = refl
    both_there _ _ q (both r) = refl

    both_related : (q : K) (u : Option X) (v : Option Y) (a : X) (b : Y) → MayBoth (S q) u v → u ≡ Some a → v ≡ Some b → S q a b
    both_related q _ _ a b neither e d = no_some e
    both_related q _ _ a b (both {x = x} {y = y} r) e d = subst (λ z. S q z b) (some_at x e) (subst (S q x) (some_at y d) r)
      where
        some_at : {Z : Type 0} (z : Z) {w : Z} → Some z ≡ Some w → z ≡ w
        some_at z e = ap (λ o. elim o [ None ↦ z | Some t ↦ t ]) e

    -- where at each key both have related values or neither has one, the entries are related in order
    pub entries_related : (es : List (K × X)) (fs : List (K × Y)) → T (is_sorted R es) → T (is_sorted R fs) → ((q : K) → MayBoth (S q) (find R q es) (find R q fs)) → Pairs (λ x y. (x.0 ≡ y.0) × S x.0 x.1 y.1) es fs
    entries_related es fs h k to = entry_by_entry es fs
        (same_entries R o same (keyed es) (keyed fs) (keyed_sorted es h) (keyed_sorted fs k) (λ q. found_keyed q es ∙ both_there (find R q es) (find R q fs) q (to q) ∙ sym (found_keyed q fs)))
        (λ q a b i j. both_related q (find R q es) (find R q fs) a b (to q) (found_at_key es (q, a) h i) (found_at_key fs (q, b) k j))
