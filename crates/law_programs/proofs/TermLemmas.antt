-- A proper term splits into proper contexts and a redex with the places that its head asks for, and is put together
-- from proper parts.
use Rattle.std.specs.Prelude.{◌≡◌, ◌≤◌, ℕ, zero, suc, ◌+◌, Bool, true, false, List, [], ◌∷◌, ◌++◌, length}
use Rattle.std.proofs.Common.{refl, sym, ap, subst, ◌∙◌, arith, length-append}
use Rattle.asp_model.specs.Names.{Text}
use Rattle.asp_model.specs.Term.{MethodHead, Head, Loc, Make, Get, Put, Call, Clone, Active, Let, Steps, If, Operate, Print, Scatter, Size, Member, WaitAll, Tree, Trees, node, none, more, loc, locs_then, binders, child_count}
use Rattle.asp_model.specs.Term as term
use Rattle.asp_model.specs.Readable.{HasArity}
use Rattle.asp_model.specs.Split.{Context, Redex, Split, Stands, Splits, split, split_below, reduced_count, plugged, plug}
use Rattle.law_steps.specs.Linked.{Each}
use Rattle.law_steps.proofs.EachLemmas.{each_both}
use Rattle.law_programs.specs.Proper.{IsProper, AreProper, IsProperContext}
use Rattle.law_programs.proofs.ScopeLemmas.{from_none}

pub loc_proper : (xs : List Text) (n : ℕ) → IsProper xs (loc n)
loc_proper xs n = (refl, refl, tt)

-- Another term at a place among those below a node

refill : (bound : List Text) (names : List (List Text)) (ns : List ℕ) (t u : Tree) (ts : Trees) → IsProper [] u → AreProper bound names (locs_then ns (more t ts)) → AreProper bound names (locs_then ns (more u ts))
refill bound [] [] t u ts s h = (from_none bound u s, h.1)
refill bound (xs ∷ names) [] t u ts s h = (from_none (xs ++ bound) u s, h.1)
refill bound [] (n ∷ ns) t u ts s h = (h.0, refill bound [] ns t u ts s h.1)
refill bound (xs ∷ names) (n ∷ ns) t u ts s h = (h.0, refill bound names ns t u ts s h.1)

pub count_behind : (ns : List ℕ) (ts : Trees) → child_count (locs_then ns ts) ≡ length ns + child_count ts
count_behind [] ts = omega arith
count_behind (n ∷ ns) ts = omega (arith, count_behind ns ts)

refilled_count : (ns : List ℕ) (t u : Tree) (ts : Trees) → child_count (locs_then ns (more t ts)) ≡ child_count (locs_then ns (more u ts))
refilled_count ns t u ts = count_behind ns (more t ts) ∙ sym (count_behind ns (more u ts))

-- a node, with another term at a place
refilled : (h : Head) (ns : List ℕ) (t u : Tree) (ts : Trees) → IsProper [] u → IsProper [] (node h (locs_then ns (more t ts))) → IsProper [] (node h (locs_then ns (more u ts)))
refilled h ns t u ts s g = (g.0, subst (HasArity h) (refilled_count ns t u ts) g.1, refill [] (binders h) ns t u ts s g.2)

locs_more : (ns : List ℕ) (n : ℕ) (ts : Trees) → locs_then ns (more (loc n) ts) ≡ locs_then (ns ++ n ∷ []) ts
locs_more [] n ts = refl
locs_more (m ∷ ns) n ts = ap (more (loc m)) (locs_more ns n ts)

pub plug_proper : (cs : List Context) (t : Tree) → Each IsProperContext cs → IsProper [] t → IsProper [] (plug cs t)
plug_proper [] t h g = g
plug_proper (c ∷ cs) t h g = plug_proper cs (plugged c t) h.1 (refilled c.head c.before (loc 0) t c.behind g h.0)

-- What is reduced in place

same_reduced : (h : Head) (ts us : Trees) → child_count ts ≡ child_count us → reduced_count h ts ≡ reduced_count h us
same_reduced (Call l) ts us e = e
same_reduced term.Group ts us e = e
same_reduced h ts us e = refl

pub reduced_within : (h : Head) (ts : Trees) → HasArity h (child_count ts) → reduced_count h ts ≤ child_count ts
reduced_within (Make fields methods) ts a = omega (arith, a)
reduced_within (Get l) ts a = omega (arith, a)
reduced_within (Put l) ts a = omega (arith, a)
reduced_within (Call l) ts a = omega arith
reduced_within Clone ts a = omega (arith, a)
reduced_within (Active l) ts a = omega (arith, a)
reduced_within (Let x) ts a = omega (arith, a)
reduced_within Steps ts a = omega (arith, a)
reduced_within If ts a = omega (arith, a)
reduced_within (Operate s) ts a = omega (arith, a)
reduced_within Print ts a = omega (arith, a)
reduced_within term.Group ts a = omega arith
reduced_within (Scatter l) ts a = omega (arith, a)
reduced_within Size ts a = omega (arith, a)
reduced_within Member ts a = omega (arith, a)
reduced_within WaitAll ts a = omega (arith, a)
reduced_within h ts a = omega arith

-- nothing is bound in the first n terms
abbrev BindsNone : ℕ → List (List Text) → Type 0
BindsNone zero names = Unit {0}
BindsNone (suc n) [] = Unit {0}
BindsNone (suc n) (xs ∷ names) = (xs ≡ []) × BindsNone n names

none_bound : (n : ℕ) → BindsNone n []
none_bound zero = tt
none_bound (suc n) = tt

in_fields : (fields : List Text) (methods : List MethodHead) → BindsNone (length fields) (binders (Make fields methods))
in_fields [] methods = tt
in_fields (f ∷ fields) methods = (refl, in_fields fields methods)

binds_none : (h : Head) (ts : Trees) → BindsNone (reduced_count h ts) (binders h)
binds_none (Make fields methods) ts = in_fields fields methods
binds_none (Let x) ts = (refl, tt)
binds_none h ts = none_bound (reduced_count h ts)

-- Splits

abbrev pub is_place : Head → Bool
is_place (Loc n) = true
is_place h = false

-- as many places as are reduced, in a proper node
pub record IsProperRedex (r : Redex) : Type 0 where
  pub reduced : is_place r.head ≡ false
  pub node : IsProper [] (node r.head (locs_then r.places r.behind))
  pub count : length r.places ≡ reduced_count r.head (locs_then r.places r.behind)

abbrev pub ProperSplit : Split → Type 0
ProperSplit (Stands place) = Unit {0}
ProperSplit (Splits contexts redex) = Each IsProperContext contexts × IsProperRedex redex

goes_on : (h : Head) (places : List ℕ) (t : Tree) (ts : Trees) (next : List ℕ → Split) → IsProper [] (node h (locs_then places (more t ts))) → ((p : ℕ) → ProperSplit (next (places ++ p ∷ []))) → (x : Split) → ProperSplit x → ProperSplit (elim x [
  | Stands p ↦ next (places ++ p ∷ [])
  | Splits contexts redex ↦ Splits (contexts ++ record { head = h; before = places; behind = ts } ∷ []) redex
])
goes_on h places t ts next g to (Stands p) x = to p
goes_on h places t ts next g to (Splits contexts redex) x = (each_both IsProperContext contexts (record { head = h; before = places; behind = ts } ∷ []) x.0 (refilled h places t (loc 0) ts (loc_proper [] 0) g, tt), x.1)

one_more : (h : Head) (places : List ℕ) (t : Tree) (ts : Trees) (p : ℕ) → IsProper [] (node h (locs_then places (more t ts))) → IsProper [] (node h (locs_then (places ++ p ∷ []) ts))
one_more h places t ts p g = subst (λ us. IsProper [] (node h us)) (locs_more places p ts) (refilled h places t (loc p) ts (loc_proper [] p) g)

still_reduced : (h : Head) (places : List ℕ) (t : Tree) (ts : Trees) (p n : ℕ) → length places + suc n ≡ reduced_count h (locs_then places (more t ts)) → length (places ++ p ∷ []) + n ≡ reduced_count h (locs_then (places ++ p ∷ []) ts)
still_reduced h places t ts p n e =
    let same : reduced_count h (locs_then places (more t ts)) ≡ reduced_count h (locs_then (places ++ p ∷ []) ts) = same_reduced h _ _ (refilled_count places t (loc p) ts ∙ ap child_count (locs_more places p ts)) in
    omega (arith, e, same, length-append places (p ∷ []))

mutual
  pub split_proper : (t : Tree) → IsProper [] t → ProperSplit (split t)
  split_proper (node (Loc n) ts) g = tt
  split_proper (node h ts) g = below_splits h (reduced_count h ts) [] ts (binders h) g (omega arith) refl (reduced_within h ts g.1) (binds_none h ts) g.2

  below_splits : (h : Head) (n : ℕ) (places : List ℕ) (ts : Trees) (names : List (List Text)) → IsProper [] (node h (locs_then places ts)) → length places + n ≡ reduced_count h (locs_then places ts) → is_place h ≡ false → n ≤ child_count ts → BindsNone n names → AreProper [] names ts → ProperSplit (split_below h n places ts)
  below_splits h n places none names g e q le b k = (tt, record { reduced = q; node = g; count = omega (arith, e, le) })
  below_splits h zero places (more t ts) names g e q le b k = (tt, record { reduced = q; node = g; count = omega (arith, e) })
  below_splits h (suc n) places (more t ts) [] g e q le b k =
      goes_on h places t ts (λ ns. split_below h n ns ts) g (λ p. below_splits h n (places ++ p ∷ []) ts [] (one_more h places t ts p g) (still_reduced h places t ts p n e) q (omega (arith, le)) (none_bound n) k.1) (split t) (split_proper t k.0)
  below_splits h (suc n) places (more t ts) (xs ∷ names) g e q le b k =
      goes_on h places t ts (λ ns. split_below h n ns ts) g (λ p. below_splits h n (places ++ p ∷ []) ts names (one_more h places t ts p g) (still_reduced h places t ts p n e) q (omega (arith, le)) b.1 k.1) (split t) (split_proper t (subst (λ ys. IsProper (ys ++ []) t) b.0 k.0))
