-- Terms that are alike show the same, split alike, and are alike again when they are plugged or substituted in.
use Rattle.std.specs.Prelude.{◌≡◌, ℕ, zero, suc, true, false, List, [], ◌∷◌, ◌++◌, Option, Some}
use Rattle.std.proofs.Common.{refl, sym, ap, subst}
use Rattle.asp_model.specs.Names.{Text, same_text}
use Rattle.asp_model.specs.Term.{Head, Loc, Var, Make, Call, Tree, Trees, node, none, more, locs_then, loc, leaf, own_locations, locations, locations_below, moved, moved_below, moved_head, blank, child_count, Environment, location_of, has_text, without, binders, variable_or, node_in, put_in, put_below}
use Rattle.asp_model.specs.Term as term
use Rattle.asp_model.specs.Split.{Context, Split, Stands, Splits, split, split_below, reduced_count, plugged, plug}
use Rattle.def_paths.specs.Agree.{Pairs, no_pair, pair, MayBoth, neither, both}
use Rattle.law_paths.specs.Alike.{AreAlike, at_locs, at_node, AreAlikeBelow, no_more, one_more, AlikeHeads, loc_heads, same_heads, AlikeContexts, AlikeSplits, both_stand, both_split, AlikeBindings}
use Rattle.law_paths.proofs.PairLemmas.{pairs_more}
use Rattle.law_chases.proofs.FutureLemmas.{none_true}

module _ (L : ℕ → ℕ → Type 0) where
  -- What is shown

  blank_head : (h : Head) → own_locations h ≡ [] → moved_head (λ n. 0) h ≡ h
  blank_head (Loc n) e = none_true (ap (λ l. elim l [ [] ↦ true | x ∷ xs ↦ false ]) e)
  blank_head h e = refl

  mutual
    pub alike_blank : (t u : Tree) → AreAlike L t u → blank t ≡ blank u
    alike_blank _ _ (at_locs l b) = ap (node (Loc 0)) (below_blank _ _ b)
    alike_blank _ _ (at_node h e b) = ap (node (moved_head (λ n. 0) h)) (below_blank _ _ b)

    pub below_blank : (ts us : Trees) → AreAlikeBelow L ts us → moved_below (λ n. 0) ts ≡ moved_below (λ n. 0) us
    below_blank _ _ no_more = refl
    below_blank _ _ (one_more a b) = λ i. more (alike_blank _ _ a i) (below_blank _ _ b i)

  own_pairs : (h : Head) → own_locations h ≡ [] → Pairs L (own_locations h) (own_locations h)
  own_pairs h e = subst (λ l. Pairs L l l) (sym e) no_pair

  mutual
    pub alike_locations : (t u : Tree) → AreAlike L t u → Pairs L (locations t) (locations u)
    alike_locations _ _ (at_locs l b) = pair l (below_locations _ _ b)
    alike_locations _ _ (at_node h e b) = pairs_more L _ _ _ _ (own_pairs h e) (below_locations _ _ b)

    pub below_locations : (ts us : Trees) → AreAlikeBelow L ts us → Pairs L (locations_below ts) (locations_below us)
    below_locations _ _ no_more = no_pair
    below_locations _ _ (one_more a b) = pairs_more L _ _ _ _ (alike_locations _ _ a) (below_locations _ _ b)

  pub alike_locs : (xs ys : List ℕ) (ts us : Trees) → Pairs L xs ys → AreAlikeBelow L ts us → AreAlikeBelow L (locs_then xs ts) (locs_then ys us)
  alike_locs _ _ ts us no_pair b = b
  alike_locs _ _ ts us (pair l ls) b = one_more (at_locs l no_more) (alike_locs _ _ ts us ls b)

  -- Splits

  split_node : (h : Head) → own_locations h ≡ [] → (ts : Trees) → split (node h ts) ≡ split_below h (reduced_count h ts) [] ts
  split_node (Loc n) e ts = none_true (ap (λ l. elim l [ [] ↦ true | x ∷ xs ↦ false ]) e)
  split_node h e ts = refl

  pub same_count : (ts us : Trees) → AreAlikeBelow L ts us → child_count ts ≡ child_count us
  same_count _ _ no_more = refl
  same_count _ _ (one_more a b) = ap suc (same_count _ _ b)

  same_reduced : (h : Head) (ts us : Trees) → child_count ts ≡ child_count us → reduced_count h ts ≡ reduced_count h us
  same_reduced (Call l) ts us e = e
  same_reduced term.Group ts us e = e
  same_reduced h ts us e = refl

  abbrev go_on : Head → List ℕ → Trees → (List ℕ → Split) → Split → Split
  go_on h places ts next x = elim x [
    | Stands p ↦ next (places ++ p ∷ [])
    | Splits contexts redex ↦ Splits (contexts ++ record { head = h; before = places; behind = ts } ∷ []) redex
  ]

  goes_alike : (h : Head) → own_locations h ≡ [] → (xs ys : List ℕ) → Pairs L xs ys → (ts us : Trees) → AreAlikeBelow L ts us → (k m : List ℕ → Split) → ((vs ws : List ℕ) → Pairs L vs ws → AlikeSplits L (k vs) (m ws)) → (s t : Split) → AlikeSplits L s t → AlikeSplits L (go_on h xs ts k s) (go_on h ys us m t)
  goes_alike h e xs ys ls ts us b k m to _ _ (both_stand l) = to _ _ (pairs_more L xs ys _ _ ls (pair l no_pair))
  goes_alike h e xs ys ls ts us b k m to _ _ (both_split cs r) = both_split (pairs_more (AlikeContexts L) _ _ _ _ cs (pair (record { head = same_heads h e; before = ls; behind = b }) no_pair)) r

  mutual
    pub alike_split : (t u : Tree) → AreAlike L t u → AlikeSplits L (split t) (split u)
    alike_split _ _ (at_locs l b) = both_stand l
    alike_split _ _ (at_node h {ts = ts} {us = us} e b) =
        subst (λ x. AlikeSplits L x (split (node h us))) (sym (split_node h e ts)) (subst (AlikeSplits L (split_below h (reduced_count h ts) [] ts)) (sym (split_node h e us))
        (subst (λ n. AlikeSplits L (split_below h (reduced_count h ts) [] ts) (split_below h n [] us)) (same_reduced h ts us (same_count ts us b)) (below_split h e (reduced_count h ts) [] [] no_pair ts us b)))

    below_split : (h : Head) → own_locations h ≡ [] → (n : ℕ) (xs ys : List ℕ) → Pairs L xs ys → (ts us : Trees) → AreAlikeBelow L ts us → AlikeSplits L (split_below h n xs ts) (split_below h n ys us)
    below_split h e n xs ys ls _ _ no_more = both_split no_pair (record { head = refl; own = e; places = ls; behind = no_more })
    below_split h e zero xs ys ls _ _ (one_more a b) = both_split no_pair (record { head = refl; own = e; places = ls; behind = one_more a b })
    below_split h e (suc n) xs ys ls _ _ (one_more {t = t} {u = u} {ts = ts} {us = us} a b) = goes_alike h e xs ys ls ts us b (λ vs. split_below h n vs ts) (λ ws. split_below h n ws us) (λ vs ws ps. below_split h e n vs ws ps ts us b) (split t) (split u) (alike_split t u a)

  -- Plugs

  by_heads : (h k : Head) {ts us : Trees} → AlikeHeads L h k → AreAlikeBelow L ts us → AreAlike L (node h ts) (node k us)
  by_heads _ _ (loc_heads l) b = at_locs l b
  by_heads _ _ (same_heads h e) b = at_node h e b

  plugged_alike : (x y : Context) (t u : Tree) → AlikeContexts L x y → AreAlike L t u → AreAlike L (plugged x t) (plugged y u)
  plugged_alike x y t u c a = by_heads x.head y.head c.head (alike_locs x.before y.before _ _ c.before (one_more a c.behind))

  pub alike_plug : (cs ds : List Context) (t u : Tree) → Pairs (AlikeContexts L) cs ds → AreAlike L t u → AreAlike L (plug cs t) (plug ds u)
  alike_plug _ _ t u no_pair a = a
  alike_plug _ _ t u (pair {x = x} {y = y} c cs) a = alike_plug _ _ (plugged x t) (plugged y u) cs (plugged_alike x y t u c a)

  -- Substitution

  abbrev pub AlikeEnvironments : Environment → Environment → Type 0
  AlikeEnvironments = Pairs (AlikeBindings L)

  found_alike : (x y z : Text) (i j : ℕ) (o p : Option ℕ) → y ≡ z → L i j → MayBoth L o p → MayBoth L (elim (same_text x y) [ true ↦ Some i | false ↦ o ]) (elim (same_text x z) [ true ↦ Some j | false ↦ p ])
  found_alike x y z i j o p e l m = subst (λ w. MayBoth L (elim (same_text x y) [ true ↦ Some i | false ↦ o ]) (elim (same_text x w) [ true ↦ Some j | false ↦ p ])) e
      (elim (same_text x y) as (λ b. MayBoth L (elim b [ true ↦ Some i | false ↦ o ]) (elim b [ true ↦ Some j | false ↦ p ])) [ true ↦ both l | false ↦ m ])

  location_alike : (x : Text) (bs cs : Environment) → AlikeEnvironments bs cs → MayBoth L (location_of x bs) (location_of x cs)
  location_alike x _ _ no_pair = neither
  location_alike x _ _ (pair {x = b} {y = c} {xs = bs} {ys = cs} r rs) = found_alike x b.0 c.0 b.1 c.1 (location_of x bs) (location_of x cs) r.0 r.1 (location_alike x _ _ rs)

  kept_alike : (xs : List Text) (b c : Text × ℕ) (bs cs : Environment) → AlikeBindings L b c → AlikeEnvironments bs cs → AlikeEnvironments (elim (has_text b.0 xs) [ true ↦ bs | false ↦ b ∷ bs ]) (elim (has_text c.0 xs) [ true ↦ cs | false ↦ c ∷ cs ])
  kept_alike xs b c bs cs r rs = subst (λ w. AlikeEnvironments (elim (has_text b.0 xs) [ true ↦ bs | false ↦ b ∷ bs ]) (elim (has_text w xs) [ true ↦ cs | false ↦ c ∷ cs ])) r.0
      (elim (has_text b.0 xs) as (λ t. AlikeEnvironments (elim t [ true ↦ bs | false ↦ b ∷ bs ]) (elim t [ true ↦ cs | false ↦ c ∷ cs ])) [ true ↦ rs | false ↦ pair r rs ])

  without_alike : (xs : List Text) (bs cs : Environment) → AlikeEnvironments bs cs → AlikeEnvironments (without xs bs) (without xs cs)
  without_alike xs _ _ no_pair = no_pair
  without_alike xs _ _ (pair {x = b} {y = c} r rs) = kept_alike xs b c _ _ r (without_alike xs _ _ rs)

  variable_alike : (x : Text) (o p : Option ℕ) → MayBoth L o p → AreAlike L (variable_or x o) (variable_or x p)
  variable_alike x _ _ neither = at_node (Var x) refl no_more
  variable_alike x _ _ (both l) = at_locs l no_more

  node_alike : (h : Head) → own_locations h ≡ [] → (bs cs : Environment) → AlikeEnvironments bs cs → (ts us : Trees) → AreAlikeBelow L ts us → AreAlike L (node_in bs h ts) (node_in cs h us)
  node_alike (Var x) e bs cs r ts us b = variable_alike x _ _ (location_alike x bs cs r)
  node_alike h e bs cs r ts us b = at_node h e b

  mutual
    pub alike_put_in : (bs cs : Environment) (t u : Tree) → AlikeEnvironments bs cs → AreAlike L t u → AreAlike L (put_in bs t) (put_in cs u)
    alike_put_in bs cs _ _ r (at_locs l b) = at_locs l (below_put bs cs [] _ _ r b)
    alike_put_in bs cs _ _ r (at_node h {ts = ts} {us = us} e b) = node_alike h e bs cs r _ _ (below_put bs cs (binders h) ts us r b)

    below_put : (bs cs : Environment) (names : List (List Text)) (ts us : Trees) → AlikeEnvironments bs cs → AreAlikeBelow L ts us → AreAlikeBelow L (put_below bs names ts) (put_below cs names us)
    below_put bs cs names _ _ r no_more = no_more
    below_put bs cs [] _ _ r (one_more a b) = one_more (alike_put_in bs cs _ _ r a) (below_put bs cs [] _ _ r b)
    below_put bs cs (xs ∷ names) _ _ r (one_more a b) = one_more (alike_put_in (without xs bs) (without xs cs) _ _ (without_alike xs bs cs r) a) (below_put bs cs names _ _ r b)
