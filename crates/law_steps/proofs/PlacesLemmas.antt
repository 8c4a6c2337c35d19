-- Places of terms that are split, plugged and substituted in.
use Rattle.std.specs.Prelude.{ℕ, zero, suc, ◌<◌, true, false, List, [], ◌∷◌, ◌++◌, Some}
use Rattle.asp_model.specs.Names.{Text}
use Rattle.asp_model.specs.Term.{Head, Loc, Var, Tree, Trees, node, none, more, locs_then, own_locations, locations, locations_below, has_text, Environment, location_of, without, binders, variable_or, put_in, put_below}
use Rattle.asp_model.specs.Names.{same_text}
use Rattle.asp_model.specs.Split.{Context, Split, Stands, Splits, split, split_below, reduced_count, plugged, plug}
use Rattle.law_steps.specs.Linked.{Each}
use Rattle.law_steps.specs.Closed.{AreBelow, ContextsBelow, SplitBelow, places_round}
use Rattle.law_steps.proofs.EachLemmas.{each_both, each_first, each_second}

module _ (k : ℕ) where
  both : (xs ys : List ℕ) → AreBelow k xs → AreBelow k ys → AreBelow k (xs ++ ys)
  both = each_both (λ i. i < k)

  pub front : (xs ys : List ℕ) → AreBelow k (xs ++ ys) → AreBelow k xs
  front = each_first (λ i. i < k)

  pub back : (xs ys : List ℕ) → AreBelow k (xs ++ ys) → AreBelow k ys
  back = each_second (λ i. i < k)

  pub locs_below : (ns : List ℕ) (ts : Trees) → AreBelow k ns → AreBelow k (locations_below ts) → AreBelow k (locations_below (locs_then ns ts))
  locs_below [] ts h g = g
  locs_below (n ∷ ns) ts h g = (h.0, locs_below ns ts h.1 g)

  -- Splits

  goes_on : (h : Head) (places : List ℕ) (ts : Trees) (next : List ℕ → Split) → AreBelow k (own_locations h) → AreBelow k places → AreBelow k (locations_below ts) → ((ns : List ℕ) → AreBelow k ns → SplitBelow k (next ns)) → (x : Split) → SplitBelow k x → SplitBelow k (elim x [
    | Stands p ↦ next (places ++ p ∷ [])
    | Splits contexts redex ↦ Splits (contexts ++ record { head = h; before = places; behind = ts } ∷ []) redex
  ])
  goes_on h places ts next own before behind to (Stands p) lt = to (places ++ p ∷ []) (both places (p ∷ []) before (lt, tt))
  goes_on h places ts next own before behind to (Splits contexts redex) x = (each_both (λ c. AreBelow k (places_round c)) contexts (record { head = h; before = places; behind = ts } ∷ []) x.0 (both (own_locations h) (places ++ locations_below ts) own (both places (locations_below ts) before behind), tt), x.1)

  mutual
    pub split_is_below : (t : Tree) → AreBelow k (locations t) → SplitBelow k (split t)
    split_is_below (node (Loc n) ts) h = h.0
    split_is_below (node h ts) g = below_is h (reduced_count h ts) [] ts (front (own_locations h) (locations_below ts) g) tt (back (own_locations h) (locations_below ts) g)

    below_is : (h : Head) (n : ℕ) (places : List ℕ) (ts : Trees) → AreBelow k (own_locations h) → AreBelow k places → AreBelow k (locations_below ts) → SplitBelow k (split_below h n places ts)
    below_is h n places none own before behind = (tt, both (own_locations h) (places ++ []) own (both places [] before tt))
    below_is h zero places (more t ts) own before behind = (tt, both (own_locations h) (places ++ locations_below (more t ts)) own (both places (locations_below (more t ts)) before behind))
    below_is h (suc n) places (more t ts) own before behind =
        let rest = back (locations t) (locations_below ts) behind in
        goes_on h places ts (λ ns. split_below h n ns ts) own before rest (λ ns g. below_is h n ns ts own g rest) (split t) (split_is_below t (front (locations t) (locations_below ts) behind))

  -- Plugs

  plugged_below : (c : Context) (t : Tree) → AreBelow k (places_round c) → AreBelow k (locations t) → AreBelow k (locations (plugged c t))
  plugged_below c t h g =
      let rest = back (own_locations c.head) (c.before ++ locations_below c.behind) h in
      both (own_locations c.head) (locations_below (locs_then c.before (more t c.behind))) (front (own_locations c.head) (c.before ++ locations_below c.behind) h)
      (locs_below c.before (more t c.behind) (front c.before (locations_below c.behind) rest) (both (locations t) (locations_below c.behind) g (back c.before (locations_below c.behind) rest)))

  pub plug_below : (cs : List Context) (t : Tree) → ContextsBelow k cs → AreBelow k (locations t) → AreBelow k (locations (plug cs t))
  plug_below [] t h g = g
  plug_below (c ∷ cs) t h g = plug_below cs (plugged c t) h.1 (plugged_below c t h.0 g)

  -- Substitution

  abbrev pub BindsBelow : Environment → Type 0
  BindsBelow = Each (λ b. b.1 < k)

  without_below : (xs : List Text) (bs : Environment) → BindsBelow bs → BindsBelow (without xs bs)
  without_below xs [] h = tt
  without_below xs (b ∷ bs) h = elim (has_text b.0 xs) as (λ t. BindsBelow (elim t [ true ↦ without xs bs | false ↦ b ∷ without xs bs ])) [ true ↦ without_below xs bs h.1 | false ↦ (h.0, without_below xs bs h.1) ]

  found_below : (x : Text) (bs : Environment) → BindsBelow bs → AreBelow k (locations (variable_or x (location_of x bs)))
  found_below x [] h = tt
  found_below x (b ∷ bs) h = elim (same_text x b.0) as (λ t. AreBelow k (locations (variable_or x (elim t [ true ↦ Some b.1 | false ↦ location_of x bs ])))) [ true ↦ (h.0, tt) | false ↦ found_below x bs h.1 ]

  mutual
    pub put_in_below : (bs : Environment) → BindsBelow bs → (t : Tree) → AreBelow k (locations t) → AreBelow k (locations (put_in bs t))
    put_in_below bs h (node (Var x) ts) g = found_below x bs h
    put_in_below bs h (node hd ts) g = both (own_locations hd) (locations_below (put_below bs (binders hd) ts)) (front (own_locations hd) (locations_below ts) g) (put_each_below bs h (binders hd) ts (back (own_locations hd) (locations_below ts) g))

    put_each_below : (bs : Environment) → BindsBelow bs → (names : List (List Text)) (ts : Trees) → AreBelow k (locations_below ts) → AreBelow k (locations_below (put_below bs names ts))
    put_each_below bs h names none g = tt
    put_each_below bs h [] (more t ts) g = both (locations (put_in bs t)) (locations_below (put_below bs [] ts)) (put_in_below bs h t (front (locations t) (locations_below ts) g)) (put_each_below bs h [] ts (back (locations t) (locations_below ts) g))
    put_each_below bs h (xs ∷ names) (more t ts) g = both (locations (put_in (without xs bs) t)) (locations_below (put_below bs names ts)) (put_in_below (without xs bs) (without_below xs bs h) t (front (locations t) (locations_below ts) g)) (put_each_below bs h names ts (back (locations t) (locations_below ts) g))
