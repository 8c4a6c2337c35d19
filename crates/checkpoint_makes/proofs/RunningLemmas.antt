-- The terms of a sound checkpoint are opened as its redexes and contexts.
use Rattle.std.proofs.Common.{◌≡◌, ℕ, zero, suc, ◌+◌, ◌<◌, Bool, true, false, List, [], ◌∷◌, ◌++◌, Option, Some, None, length, refl, sym, ap, subst, ◌∙◌, arith}
use Rattle.std.specs.Prelude.{nat_lt}
use Rattle.std.proofs.lemmas.Bool.{ltb-true}
use Rattle.asp_model.specs.Names.{Text}
use Rattle.asp_model.specs.Split.{Context, Redex, Split, Splits, split, plug, plugged, reduced_count}
use Rattle.asp_model.specs.Split as terms
use Rattle.asp_model.specs.Term.{Head, Hole, Loc, Tree, Trees, node, none, more, leaf, loc, locs_then, binders, child_count}
use Rattle.law_steps.specs.Linked.{Each}
use Rattle.law_programs.specs.Proper.{IsProper, AreProper, IsProperContext}
use Rattle.law_programs.proofs.TermLemmas.{ProperSplit, split_proper}
use Rattle.code_laws.specs.Splitting.{redex_node, IsContext, AreContexts, IsRedex, HasBareLocations, HaveBareLocations}
use Rattle.code_laws.proofs.OpenLemmas.{count_locs, reduced_same}
use Rattle.code_laws.proofs.SplitLemmas.{splits_one_way, splits_plug_back, splits_are_redexes}
use Rattle.frozen_code.specs.Held.{filler, filled}
use Rattle.checkpoint_text.specs.Reading.{only_context, context_below, context_of, contexts_of, with_context, plugged_by, is_hole}
use Rattle.checkpoint_parts.specs.Shapes.{contexts_shape, or_hole, or_none, running_shape}
use Rattle.term_opening.specs.Holding.{IsContextTerm}
use Rattle.term_opening.specs.Opening.{emptied_first, done_first, place_in}
use Rattle.checkpoint_makes.specs.Terms.{AreContextTerms, IsInsideBy, RunsAs, WaitsAs, place_or}

no_true : {A : Type 0} → false ≡ true → A
no_true e = cc

no_some : {A X : Type 0} {x : X} → None ≡ Some x → A
no_some e = cc

some_same : {X : Type 0} (x y : X) → Some x ≡ Some y → x ≡ y
some_same x y e = cc

-- A term that is read as a context is opened as it

off_emptied : (n : ℕ) (ts : Trees) → emptied_first false n ts ≡ ts
off_emptied zero ts = refl
off_emptied (suc n) none = refl
off_emptied (suc n) (more t ts) = ap (more t) (off_emptied n ts)

off_done : (ps : List ℕ) (n : ℕ) (ts : Trees) → done_first false ps n ts ≡ ps
off_done ps zero ts = refl
off_done ps (suc n) none = refl
off_done ps (suc n) (more t ts) = off_done ps n ts

-- these terms are places, then a hole, and then those behind it
pub record GoesTo (h : Head) (before : List ℕ) (ts : Trees) (c : Context) : Type 0 where
  pub head : c.head ≡ h
  pub places : List ℕ
  pub all : c.before ≡ before ++ places
  pub count : child_count ts ≡ length places + suc (child_count c.behind)
  pub within : IsContext c
  pub left : (n : ℕ) → length places < n → emptied_first true n ts ≡ filled (suc (length places)) c.behind
  pub done : (n : ℕ) (rs : List ℕ) → length places < n → done_first true rs n ts ≡ rs ++ places

append_nothing : (xs : List ℕ) → xs ≡ xs ++ []
append_nothing [] = refl
append_nothing (x ∷ xs) = ap (λ ys. x ∷ ys) (append_nothing xs)

append_one : (xs ys : List ℕ) (y : ℕ) → (xs ++ y ∷ []) ++ ys ≡ xs ++ (y ∷ ys)
append_one [] ys y = refl
append_one (x ∷ xs) ys y = ap (λ zs. x ∷ zs) (append_one xs ys y)

only_here : (b c : Context) → only_context b ≡ Some c → (b ≡ c) × IsContext b
only_here b c e = by (nat_lt (length b.before) (reduced_count b.head (locs_then b.before (more (loc 0) b.behind)))) refl e
  where
    by : (x : Bool) → nat_lt (length b.before) (reduced_count b.head (locs_then b.before (more (loc 0) b.behind))) ≡ x → elim x [ true ↦ Some b | false ↦ None ] ≡ Some c → (b ≡ c) × IsContext b
    by true q k = (some_same b c k, ltb-true _ _ q)
    by false q k = no_some k

goes_to : (h : Head) (before : List ℕ) (ts : Trees) (c : Context) → context_below h before ts ≡ Some c → GoesTo h before ts c
goes_to h before none c e = no_some e
goes_to h before (more (node (Loc n) us) ts) c e =
    let g : GoesTo h (before ++ n ∷ []) ts c = goes_to h (before ++ n ∷ []) ts c e in
    let one_more : suc (length g.places + suc (child_count c.behind)) ≡ suc (length g.places) + suc (child_count c.behind) = omega arith in
    record {
      head = g.head;
      places = n ∷ g.places;
      all = g.all ∙ append_one before g.places n;
      count = ap suc g.count ∙ one_more;
      within = g.within;
      left = λ m l. more_left m g l;
      done = λ m rs l. more_done m rs g l;
    }
  where
    more_left : (m : ℕ) (g : GoesTo h (before ++ n ∷ []) ts c) → suc (length g.places) < m → emptied_first true m (more (node (Loc n) us) ts) ≡ more filler (filled (suc (length g.places)) c.behind)
    more_left zero g l = absurd (omega (arith, l))
    more_left (suc m) g l = let less : length g.places < m = omega (arith, l) in ap (more filler) (g.left m less)

    more_done : (m : ℕ) (rs : List ℕ) (g : GoesTo h (before ++ n ∷ []) ts c) → suc (length g.places) < m → done_first true rs m (more (node (Loc n) us) ts) ≡ rs ++ (n ∷ g.places)
    more_done zero rs g l = absurd (omega (arith, l))
    more_done (suc m) rs g l = let less : length g.places < m = omega (arith, l) in g.done m (rs ++ n ∷ []) less ∙ append_one rs g.places n
goes_to h before (more (node Hole us) ts) c e =
    let b : Context = record { head = h; before = before; behind = ts } in
    let here : (b ≡ c) × IsContext b = only_here b c e in
    let none_more : suc (child_count ts) ≡ 0 + suc (child_count ts) = omega arith in
    subst (GoesTo h before (more (node Hole us) ts)) here.0 (record {
      head = refl;
      places = [];
      all = append_nothing before;
      count = none_more;
      within = here.1;
      left = λ m l. hole_left m l;
      done = λ m rs l. hole_done m rs l;
    })
  where
    hole_left : (m : ℕ) → 0 < m → emptied_first true m (more (node Hole us) ts) ≡ more filler ts
    hole_left zero l = absurd (omega (arith, l))
    hole_left (suc m) l = ap (more filler) (off_emptied m ts)

    hole_done : (m : ℕ) (rs : List ℕ) → 0 < m → done_first true rs m (more (node Hole us) ts) ≡ rs ++ []
    hole_done zero rs l = absurd (omega (arith, l))
    hole_done (suc m) rs l = off_done rs m ts ∙ append_nothing rs
goes_to h before (more (node k us) ts) c e = no_some e

is_opened_as : (t : Tree) (c : Context) → context_of t ≡ Some c → IsProperContext c → IsContextTerm c t
is_opened_as (node h ts) c e proper =
    let g : GoesTo h [] ts c = goes_to h [] ts c e in
    let same : length c.before ≡ length g.places = ap length g.all in
    let other : child_count (locs_then c.before (more (loc 0) c.behind)) ≡ length c.before + suc (child_count c.behind) = count_locs c.before (more (loc 0) c.behind) in
    let counts : child_count (locs_then c.before (more (loc 0) c.behind)) ≡ child_count ts = omega (arith, other, same, g.count) in
    let reduced : reduced_count c.head (locs_then c.before (more (loc 0) c.behind)) ≡ reduced_count h ts = reduced_same c.head _ _ counts ∙ ap (λ (k : Head). reduced_count k ts) g.head in
    let low : length c.before < reduced_count c.head (locs_then c.before (more (loc 0) c.behind)) = g.within in
    let enough : length g.places < reduced_count h ts = omega (arith, low, reduced, same) in
    record {
      proper = proper;
      context = g.within;
      left = (λ i. node (sym g.head i) (g.left _ enough i)) ∙ ap (λ n. node c.head (filled (suc n) c.behind)) (sym same);
      done = g.done _ [] enough ∙ sym g.all;
    }

context_is : (t : Tree) (c : Context) → context_of t ≡ Some c → IsContext c
context_is (node h ts) c e = (goes_to h [] ts c e).within

-- Lists of contexts

-- one context, and those of the others
pub record Both (c : Option Context) (cs : Option (List Context)) (all : List Context) : Type 0 where
  pub first : Context
  pub others : List Context
  pub is : c ≡ Some first
  pub are : cs ≡ Some others
  pub same : all ≡ first ∷ others

both : (c : Option Context) (cs : Option (List Context)) (all : List Context) → with_context c cs ≡ Some all → Both c cs all
both None cs all e = no_some e
both (Some c) None all e = no_some e
both (Some c) (Some cs) all e = record { first = c; others = cs; is = refl; are = refl; same = sym (some_same (c ∷ cs) all e) }

all_contexts : (ts : List Tree) (cs : List Context) → contexts_of ts ≡ Some cs → AreContexts cs
all_contexts [] cs e = subst AreContexts (some_same [] cs e) tt
all_contexts (t ∷ ts) cs e =
    let b = both (context_of t) (contexts_of ts) cs e in
    subst AreContexts (sym b.same) (context_is t b.first b.is, all_contexts ts b.others b.are)

all_opened : (ts : List Tree) (cs : List Context) → contexts_of ts ≡ Some cs → Each IsProperContext cs → AreContextTerms cs ts
all_opened [] cs e p = subst (λ ds. AreContextTerms ds []) (some_same [] cs e) tt
all_opened (t ∷ ts) cs e p =
    let b = both (context_of t) (contexts_of ts) cs e in
    let q : Each IsProperContext (b.first ∷ b.others) = subst (Each IsProperContext) b.same p in
    subst (λ ds. AreContextTerms ds (t ∷ ts)) (sym b.same) (is_opened_as t b.first b.is q.0, all_opened ts b.others b.are q.1)

-- What stands inside contexts has bare places

no_children : (ts : Trees) → child_count ts ≡ 0 → ts ≡ none
no_children none e = refl
no_children (more t ts) e = absurd (omega (arith, e))

mutual
  bare : (xs : List Text) (t : Tree) → IsProper xs t → HasBareLocations t
  bare xs (node (Loc n) ts) h = no_children ts h.1
  bare xs (node k ts) h = bare_below xs (binders k) ts h.2

  bare_below : (xs : List Text) (names : List (List Text)) (ts : Trees) → AreProper xs names ts → HaveBareLocations ts
  bare_below xs names none h = tt
  bare_below xs [] (more t ts) h = (bare xs t h.0, bare_below xs [] ts h.1)
  bare_below xs (ys ∷ names) (more t ts) h = (bare _ t h.0, bare_below xs names ts h.1)

behind_locs : (ns : List ℕ) (t : Tree) (us : Trees) → HaveBareLocations (locs_then ns (more t us)) → HasBareLocations t
behind_locs [] t us h = h.0
behind_locs (n ∷ ns) t us h = behind_locs ns t us h.1

node_inside : (h : Head) (ns : List ℕ) (t : Tree) (us : Trees) → length ns < reduced_count h (locs_then ns (more (loc 0) us)) → HasBareLocations (node h (locs_then ns (more t us))) → HasBareLocations t
node_inside (Loc n) ns t us l b = let none_is : length ns < 0 = l in absurd (omega (arith, none_is))
node_inside _ ns t us l b = behind_locs ns t us b

bare_inside : (cs : List Context) (t : Tree) → AreContexts cs → HasBareLocations (plug cs t) → HasBareLocations t
bare_inside [] t are b = b
bare_inside (c ∷ cs) t are b = node_inside c.head c.before t c.behind are.0 (bare_inside cs (plugged c t) are.1 b)

-- Terms that run

no_hole : {A : Type 0} → IsProper [] (leaf Hole) → A
no_hole p = no_true p.0

redex_runs : (t : Tree) (ts : List Tree) (r : Redex) (cs : List Context) → place_in t ≡ None → split t ≡ Splits [] r → contexts_of ts ≡ Some cs → running_shape (t ∷ ts) ≡ plug cs t → IsProper [] (plug cs t) → RunsAs (t ∷ ts)
redex_runs t ts r cs other is are runs proper =
    let contexts : AreContexts cs = all_contexts ts cs are in
    let back : redex_node r ≡ t = splits_plug_back t [] r (bare_inside cs t contexts (bare [] (plug cs t) proper)) is in
    let redex : IsRedex r = (splits_are_redexes t [] r is).1 in
    let whole : split (plug cs (redex_node r)) ≡ Splits cs r = splits_one_way cs r contexts redex in
    let parts : ProperSplit (Splits cs r) = subst ProperSplit whole (split_proper (plug cs (redex_node r)) (subst (λ u. IsProper [] (plug cs u)) (sym back) proper)) in
    record {
      inner = subst (λ o. IsInsideBy o t) (sym other) (r, record { proper = parts.1.node; redex = redex; term = back });
      contexts = cs;
      round = all_opened ts cs are parts.0;
      term = ap (λ o. plug cs (place_or o t)) other ∙ sym runs;
    }

pub term_runs : (ts : List Tree) → IsProper [] (running_shape ts) → RunsAs ts
term_runs [] p = no_hole p
term_runs (node (Loc n) us ∷ []) p = record { inner = tt; contexts = []; round = tt; term = refl }
term_runs (node (Loc n) us ∷ (t ∷ ts)) p = no_hole p
term_runs (node h us ∷ ts) p = by (split (node h us)) (contexts_of ts) refl refl
  where
    by : (s : Split) (o : Option (List Context)) → split (node h us) ≡ s → contexts_of ts ≡ o → RunsAs (node h us ∷ ts)
    by (Splits [] r) (Some cs) is are =
        let runs : running_shape (node h us ∷ ts) ≡ plug cs (node h us) = (λ i. or_hole (plugged_by (is i) (node h us) (are i))) in
        redex_runs (node h us) ts r cs refl is are runs (subst (IsProper []) runs p)
    by (Splits [] r) None is are = no_hole (subst (IsProper []) (λ i. or_hole (plugged_by (is i) (node h us) (are i))) p)
    by (Splits (c ∷ cs) r) o is are = no_hole (subst (IsProper []) (λ i. or_hole (plugged_by (is i) (node h us) (are i))) p)
    by (terms.Stands n) o is are = no_hole (subst (IsProper []) (λ i. or_hole (plugged_by (is i) (node h us) (are i))) p)

-- Terms that wait: no context is what no term makes

pub term_waits : (ts : List Tree) → AreContexts (contexts_shape ts) → Each IsProperContext (contexts_shape ts) → WaitsAs ts
term_waits [] are proper = let none_is : 0 < 0 = are.0 in absurd (omega (arith, none_is))
term_waits (t ∷ ts) are proper = by (is_hole t) (contexts_of ts) refl refl
  where
    by : (b : Bool) (o : Option (List Context)) → is_hole t ≡ b → contexts_of ts ≡ o → WaitsAs (t ∷ ts)
    by true (Some cs) is made =
        let same : contexts_shape (t ∷ ts) ≡ cs = (λ i. or_none (elim (is i) [ true ↦ made i | false ↦ None ])) in
        subst (λ ds. AreContextTerms ds ts) (sym same) (all_opened ts cs made (subst (Each IsProperContext) same proper))
    by true None is made =
        let bad = subst AreContexts (λ i. or_none (elim (is i) [ true ↦ made i | false ↦ None ])) are in
        let none_is : 0 < 0 = bad.0 in absurd (omega (arith, none_is))
    by false o is made =
        let bad = subst AreContexts (λ i. or_none (elim (is i) [ true ↦ contexts_of ts | false ↦ None ])) are in
        let none_is : 0 < 0 = bad.0 in absurd (omega (arith, none_is))
