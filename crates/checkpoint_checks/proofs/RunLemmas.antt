-- Terms that run and wait fit exactly where they are proper, with places below the size.
use Rattle.std.specs.Prelude.{◌≡◌, ℕ, suc, ◌<◌, ◌&&◌, nat_lt, Bool, true, false, List, [], ◌∷◌, ◌++◌, Option, Some, None, is_some, length}
use Rattle.std.specs.List.{list_all}
use Rattle.std.specs.Option.{option_map}
use Rattle.std.proofs.Common.{refl, sym, ap, subst, ◌∙◌, arith, append_assoc}
use Rattle.std.proofs.lemmas.Bool.{ltb-true, lt-ltb, eqb-true}
use Rattle.std.proofs.lemmas.List.{append-nil}
use Rattle.asp_model.specs.Names.{Text}
use Rattle.asp_model.specs.Term.{Head, Loc, Hole, Var, Make, Tree, Trees, node, none, more, loc, locs_then, binders, child_count, own_locations, locations, locations_below}
use Rattle.asp_model.specs.Split.{Context, Redex, Split, Stands, Splits, reduced_count, split, plugged, plug}
use Rattle.asp_check.specs.NameFaults.{NameSet, no_names, with_names}
use Rattle.law_chases.proofs.FutureLemmas.{no_some, some_is, none_true}
use Rattle.law_steps.specs.Linked.{Each}
use Rattle.law_steps.specs.Closed.{AreBelow, ContextsBelow, SplitBelow, places_round}
use Rattle.law_steps.proofs.EachLemmas.{each_both, each_first, each_second}
use Rattle.law_steps.proofs.PlacesLemmas.{locs_below, plug_below, split_is_below}
use Rattle.law_programs.specs.Proper.{is_proper_node, IsProper, AreProper, IsProperContext}
use Rattle.law_programs.proofs.TermLemmas.{ProperSplit, loc_proper, plug_proper, split_proper}
use Rattle.code_laws.specs.Splitting.{redex_node, AreContexts, IsContext, HasBareLocations, HaveBareLocations}
use Rattle.code_laws.proofs.SplitLemmas.{splits_one_way, splits_plug_back, splits_are_redexes}
use Rattle.checkpoint_text.specs.Reading.{only_context, context_below, context_of, with_context, contexts_of, plugged_by, standing_alone, running_of, is_hole, waiting_of}
use Rattle.checkpoint_parts.specs.Shapes.{no_context, or_hole, or_none, running_shape, contexts_shape}
use Rattle.proper_terms.specs.Fits.{fits, has_arity, is_single, left_at, left_below, left_in, then_left, where_true}
use Rattle.proper_terms.proofs.FitLemmas.{fitting_is_proper, goes, going, has_none, is_where, of_arity, of_node, of_propers, single_is_single, some_of, to_arity, to_propers, where_is}
use Rattle.checkpoint_files.specs.Running.{is_running, is_waiting}
use Rattle.checkpoint_files.proofs.RunningLemmas.{found, runs_is, waits_is}
use Rattle.checkpoint_checks.specs.Activities.{inner_fits, outer_fit, run_fits, wait_fits}
use Rattle.checkpoint_checks.proofs.BareLemmas.{AreBare, HasBare, IsBare}
use Rattle.checkpoint_checks.proofs.SameLemmas.{Same, same_as, same_at, same_both, same_true}

-- The locations before the first hole, and the terms behind it

abbrev Round : Type 0
Round = List ℕ × Trees

abbrev one_before : ℕ → Round → Round
one_before n r = (n ∷ r.0, r.1)

abbrev round : Trees → Option Round
round none = None
round (more (node (Loc n) us) ts) = option_map (one_before n) (round ts)
round (more (node Hole us) ts) = Some ([], ts)
round (more (node h us) ts) = None

abbrev context_at : Head → List ℕ → Round → Context
context_at h before r = record { head = h; before = before ++ r.0; behind = r.1 }

abbrev by_round : Head → List ℕ → Option Round → Option Context
by_round h before None = None
by_round h before (Some r) = only_context (context_at h before r)

one_further : (h : Head) (before : List ℕ) (n : ℕ) (o : Option Round) → by_round h (before ++ n ∷ []) o ≡ by_round h before (option_map (one_before n) o)
one_further h before n None = refl
one_further h before n (Some r) = ap (λ ns. only_context (record { head = h; before = ns; behind = r.1 })) (append_assoc before (n ∷ []) r.0)

context_is : (h : Head) (before : List ℕ) (ts : Trees) → context_below h before ts ≡ by_round h before (round ts)
context_is h before none = refl
context_is h before (more (node (Loc n) us) ts) = context_is h (before ++ n ∷ []) ts ∙ one_further h before n (round ts)
context_is h before (more (node Hole us) ts) = ap (λ ns. only_context (record { head = h; before = ns; behind = ts })) (sym (append-nil before))
context_is h before (more (node k us) ts) = refl

only_is : (c d : Context) → only_context c ≡ Some d → c ≡ d
only_is c d e = by (nat_lt (length c.before) (reduced_count c.head (locs_then c.before (more (loc 0) c.behind)))) e
  where
    by : (b : Bool) → elim b [ true ↦ Some c | false ↦ None ] ≡ Some d → c ≡ d
    by true e = some_is e
    by false e = no_some e

only_waits : (c d : Context) → only_context c ≡ Some d → IsContext c
only_waits c d e = ltb-true _ _ (by (nat_lt (length c.before) (reduced_count c.head (locs_then c.before (more (loc 0) c.behind)))) e)
  where
    by : (b : Bool) → elim b [ true ↦ Some c | false ↦ None ] ≡ Some d → b ≡ true
    by true e = refl
    by false e = no_some e

-- a context that was read: its parts
record IsRead (h : Head) (ts : Trees) (c : Context) : Type 0 where
  parts : Round
  there : round ts ≡ Some parts
  is : context_at h [] parts ≡ c
  waits : IsContext c

read_is : (h : Head) (ts : Trees) (c : Context) → context_of (node h ts) ≡ Some c → IsRead h ts c
read_is h ts c e = by (round ts) refl (sym (context_is h [] ts) ∙ e)
  where
    by : (o : Option Round) → round ts ≡ o → by_round h [] o ≡ Some c → IsRead h ts c
    by None p q = no_some q
    by (Some r) p q =
        let same = only_is (context_at h [] r) c q in
        record { parts = r; there = p; is = same; waits = subst IsContext same (only_waits (context_at h [] r) c q) }

no_terms : (ts : Trees) → child_count ts ≡ 0 → ts ≡ none
no_terms none e = refl
no_terms (more t ts) e = absurd (omega (arith, e))

round_count : (ts : Trees) (r : Round) → round ts ≡ Some r → child_count ts ≡ child_count (locs_then r.0 (more (loc 0) r.1))
round_count none r e = no_some e
round_count (more (node (Loc n) us) ts) r e = by (round ts) refl e (λ s p. round_count ts s p)
  where
    by : (o : Option Round) → round ts ≡ o → option_map (one_before n) o ≡ Some r
        → ((s : Round) → round ts ≡ Some s → child_count ts ≡ child_count (locs_then s.0 (more (loc 0) s.1)))
        → child_count (more (node (Loc n) us) ts) ≡ child_count (locs_then r.0 (more (loc 0) r.1))
    by None p q rest = no_some q
    by (Some s) p q rest = subst (λ (z : Round). child_count (more (node (Loc n) us) ts) ≡ child_count (locs_then z.0 (more (loc 0) z.1))) (some_is q) (ap (λ j. suc j) (rest s p))
round_count (more (node Hole us) ts) r e = subst (λ (z : Round). child_count (more (node Hole us) ts) ≡ child_count (locs_then z.0 (more (loc 0) z.1))) (some_is e) refl
round_count (more (node h us) ts) r e = no_some e

module _ (k : ℕ) where
  -- proper with a location in the hole, and below the size
  record IsGood (names : List (List Text)) (r : Round) : Type 0 where
    proper : AreProper [] names (locs_then r.0 (more (loc 0) r.1))
    below : AreBelow k (r.0 ++ locations_below r.1)

  -- A location, and a hole, under all names

  place_to : (set : NameSet) (n : ℕ) (us : Trees) (i m : ℕ) → left_in k set (node (Loc n) us) i ≡ Some m → (n < k) × (m ≡ i)
  place_to set n us i m e =
      let a = goes (where_true (has_arity (Loc n) (child_count us)) i) (λ j. then_left (left_at k set (Loc n) j) (left_below k set [] us)) m e in
      let w = where_is (has_arity (Loc n) (child_count us)) i a.by a.first in
      let b = goes (left_at k set (Loc n) a.by) (left_below k set [] us) m a.behind in
      let v = where_is (nat_lt n k) a.by b.by b.first in
      let bare : us ≡ none = no_terms us (eqb-true (child_count us) 0 w.0) in
      (ltb-true n k v.0, some_is (sym b.behind ∙ ap (λ ts. left_below k set [] ts b.by) bare) ∙ v.1 ∙ w.1)

  place_of : (set : NameSet) (n : ℕ) (us : Trees) (i : ℕ) → us ≡ none → n < k → left_in k set (node (Loc n) us) i ≡ Some i
  place_of set n us i bare lt = ap (λ ts. left_in k set (node (Loc n) ts) i) bare ∙ ap (λ b. then_left (where_true b i) (left_below k set [] none)) (lt-ltb n k lt)

  hole_to : (set : NameSet) (us : Trees) (m : ℕ) → left_in k set (node Hole us) 1 ≡ Some m → m ≡ 0
  hole_to set us m e =
      let a = goes (where_true (has_arity Hole (child_count us)) 1) (λ j. then_left (left_at k set Hole j) (left_below k set [] us)) m e in
      let w = where_is (has_arity Hole (child_count us)) 1 a.by a.first in
      let b = goes (left_at k set Hole a.by) (left_below k set [] us) m a.behind in
      let bare : us ≡ none = no_terms us (eqb-true (child_count us) 0 w.0) in
      let gone : left_at k set Hole 1 ≡ Some b.by = subst (λ j. left_at k set Hole j ≡ Some b.by) w.1 b.first in
      some_is (sym b.behind ∙ ap (λ ts. left_below k set [] ts b.by) bare) ∙ sym (some_is gone)

  hole_of : (set : NameSet) (us : Trees) → us ≡ none → left_in k set (node Hole us) 1 ≡ Some 0
  hole_of set us bare = ap (λ ts. left_in k set (node Hole ts) 1) bare

  -- The terms below

  good_none : (n : ℕ) (s : Round) → n < k → IsGood [] s → IsGood [] (one_before n s)
  good_none n s lt g = record { proper = (loc_proper [] n, g.proper); below = (lt, g.below) }

  good_some : (xs : List Text) (names : List (List Text)) (n : ℕ) (s : Round) → n < k → IsGood names s → IsGood (xs ∷ names) (one_before n s)
  good_some xs names n s lt g = record { proper = (loc_proper (xs ++ []) n, g.proper); below = (lt, g.below) }

  moved_to : (names : List (List Text)) (n : ℕ) (r : Round) (o : Option Round) → option_map (one_before n) o ≡ Some r → ((s : Round) → o ≡ Some s → IsGood names (one_before n s)) → IsGood names r
  moved_to names n r None q rest = no_some q
  moved_to names n r (Some s) q rest = subst (IsGood names) (some_is q) (rest s refl)

  round_to : (names : List (List Text)) (ts : Trees) (r : Round) (m : ℕ) → round ts ≡ Some r → left_below k no_names names ts 1 ≡ Some m → IsGood names r
  round_to names none r m e l = no_some e
  round_to [] (more (node (Loc n) us) ts) r m e l =
      let a = goes (left_in k no_names (node (Loc n) us) 1) (left_below k no_names [] ts) m l in
      let p = place_to no_names n us 1 a.by a.first in
      let rest = subst (λ j. left_below k no_names [] ts j ≡ Some m) p.1 a.behind in
      moved_to [] n r (round ts) e (λ s q. good_none n s p.0 (round_to [] ts s m q rest))
  round_to (xs ∷ names) (more (node (Loc n) us) ts) r m e l =
      let a = goes (left_in k (with_names xs no_names) (node (Loc n) us) 1) (left_below k no_names names ts) m l in
      let p = place_to (with_names xs no_names) n us 1 a.by a.first in
      let rest = subst (λ j. left_below k no_names names ts j ≡ Some m) p.1 a.behind in
      moved_to (xs ∷ names) n r (round ts) e (λ s q. good_some xs names n s p.0 (round_to names ts s m q rest))
  round_to [] (more (node Hole us) ts) r m e l =
      let a = goes (left_in k no_names (node Hole us) 1) (left_below k no_names [] ts) m l in
      let rest = to_propers k no_names [] has_none [] ts m (subst (λ j. left_below k no_names [] ts j ≡ Some m) (hole_to no_names us a.by a.first) a.behind) in
      subst (IsGood []) (some_is e) (record { proper = (loc_proper [] 0, rest.1.0); below = rest.1.1 })
  round_to (xs ∷ names) (more (node Hole us) ts) r m e l =
      let a = goes (left_in k (with_names xs no_names) (node Hole us) 1) (left_below k no_names names ts) m l in
      let rest = to_propers k no_names [] has_none names ts m (subst (λ j. left_below k no_names names ts j ≡ Some m) (hole_to (with_names xs no_names) us a.by a.first) a.behind) in
      subst (IsGood (xs ∷ names)) (some_is e) (record { proper = (loc_proper (xs ++ []) 0, rest.1.0); below = rest.1.1 })
  round_to names (more (node h us) ts) r m e l = no_some e

  moved_of : {A : Type 0} (n : ℕ) (r : Round) (o : Option Round) → option_map (one_before n) o ≡ Some r → ((s : Round) → o ≡ Some s → one_before n s ≡ r → A) → A
  moved_of n r None q rest = no_some q
  moved_of n r (Some s) q rest = rest s refl (some_is q)

  round_of : (names : List (List Text)) (ts : Trees) (r : Round) → round ts ≡ Some r → AreBare ts → IsGood names r → left_below k no_names names ts 1 ≡ Some 0
  round_of names none r e b g = no_some e
  round_of [] (more (node (Loc n) us) ts) r e b g = moved_of n r (round ts) e (λ s q i.
      let h : IsGood [] (one_before n s) = subst (IsGood []) (sym i) g in
      going (left_in k no_names (node (Loc n) us) 1) (left_below k no_names [] ts) 1 0 (place_of no_names n us 1 b.0 h.below.0)
      (round_of [] ts s q b.1 (record { proper = h.proper.1; below = h.below.1 })))
  round_of (xs ∷ names) (more (node (Loc n) us) ts) r e b g = moved_of n r (round ts) e (λ s q i.
      let h : IsGood (xs ∷ names) (one_before n s) = subst (IsGood (xs ∷ names)) (sym i) g in
      going (left_in k (with_names xs no_names) (node (Loc n) us) 1) (left_below k no_names names ts) 1 0 (place_of (with_names xs no_names) n us 1 b.0 h.below.0)
      (round_of names ts s q b.1 (record { proper = h.proper.1; below = h.below.1 })))
  round_of [] (more (node Hole us) ts) r e b g =
      let h : IsGood [] ([], ts) = subst (IsGood []) (sym (some_is e)) g in
      going (left_in k no_names (node Hole us) 1) (left_below k no_names [] ts) 0 0 (hole_of no_names us b.0)
      (of_propers k no_names [] has_none [] ts 0 h.proper.1 h.below)
  round_of (xs ∷ names) (more (node Hole us) ts) r e b g =
      let h : IsGood (xs ∷ names) ([], ts) = subst (IsGood (xs ∷ names)) (sym (some_is e)) g in
      going (left_in k (with_names xs no_names) (node Hole us) 1) (left_below k no_names names ts) 0 0 (hole_of (with_names xs no_names) us b.0)
      (of_propers k no_names [] has_none names ts 0 h.proper.1 h.below)
  round_of names (more (node h us) ts) r e b g = no_some e

  -- Contexts

  abbrev is_gap : Head → Bool
  is_gap Hole = true
  is_gap h = false

  waits_apart : (h : Head) (before : List ℕ) (ts : Trees) → length before < reduced_count h ts → is_gap h ≡ false
  waits_apart Hole before ts lt = absurd (omega (arith, lt))
  waits_apart h before ts lt = refl

  -- a node itself, which is no hole
  to_node : (h : Head) (n m : ℕ) → is_gap h ≡ false → left_at k no_names h n ≡ Some m → (m ≡ n) × ((is_proper_node [] h ≡ true) × AreBelow k (own_locations h))
  to_node Hole n m g e = none_true (sym g)
  to_node (Loc p) n m g e = let w = where_is (nat_lt p k) n m e in (w.1, (refl, (ltb-true p k w.0, tt)))
  to_node (Var x) n m g e = let w = where_is (no_names x) n m e in none_true w.0
  to_node (Make fields methods) n m g e = let w = where_is (is_single fields methods) n m e in (w.1, (sym (single_is_single fields methods) ∙ w.0, tt))
  to_node h n m g e = (sym (some_is e), (refl, tt))

  abbrev IsContextBelow : Context → Type 0
  IsContextBelow c = IsProperContext c × AreBelow k (places_round c)

  context_to : (h : Head) (ts : Trees) (c : Context) → IsRead h ts c → (m : ℕ) → left_in k no_names (node h ts) 1 ≡ Some m → IsContextBelow c
  context_to h ts c read m e =
      let r = read.parts in
      let a = goes (where_true (has_arity h (child_count ts)) 1) (λ j. then_left (left_at k no_names h j) (left_below k no_names (binders h) ts)) m e in
      let w = where_is (has_arity h (child_count ts)) 1 a.by a.first in
      let b = goes (left_at k no_names h a.by) (left_below k no_names (binders h) ts) m a.behind in
      let waits : IsContext (context_at h [] r) = subst IsContext (sym read.is) read.waits in
      let here = to_node h 1 b.by (waits_apart h r.0 (locs_then r.0 (more (loc 0) r.1)) waits) (subst (λ j. left_at k no_names h j ≡ Some b.by) w.1 b.first) in
      let good = round_to (binders h) ts r m read.there (subst (λ j. left_below k no_names (binders h) ts j ≡ Some m) here.0 b.behind) in
      let arity = subst (λ j. has_arity h j ≡ true) (round_count ts r read.there) w.0 in
      subst IsContextBelow read.is (
        (here.1.0, to_arity h (child_count (locs_then r.0 (more (loc 0) r.1))) arity, good.proper),
        each_both (λ i. i < k) (own_locations h) (r.0 ++ locations_below r.1) here.1.1 good.below,
      )

  context_of_sound : (h : Head) (ts : Trees) (c : Context) → IsRead h ts c → AreBare ts → IsContextBelow c → left_in k no_names (node h ts) 1 ≡ Some 0
  context_of_sound h ts c read bare s =
      let r = read.parts in
      let t : IsContextBelow (context_at h [] r) = subst IsContextBelow (sym read.is) s in
      let good : IsGood (binders h) r = record { proper = t.0.2; below = each_second (λ i. i < k) (own_locations h) (r.0 ++ locations_below r.1) t.1 } in
      going (where_true (has_arity h (child_count ts)) 1) (λ j. then_left (left_at k no_names h j) (left_below k no_names (binders h) ts)) 1 0
      (is_where (has_arity h (child_count ts)) 1 (ap (has_arity h) (round_count ts r read.there) ∙ of_arity h (child_count (locs_then r.0 (more (loc 0) r.1))) t.0.1))
      (going (left_at k no_names h 1) (left_below k no_names (binders h) ts) 1 0
      (of_node k no_names [] has_none h 1 t.0.0 (each_first (λ i. i < k) (own_locations h) (r.0 ++ locations_below r.1) t.1))
      (round_of (binders h) ts r read.there bare good))

  same_context : (t : Tree) (c : Context) → context_of t ≡ Some c → HasBare t → Same (fits k 1 t) (IsContextBelow c)
  same_context (node h ts) c e bare =
      let read = read_is h ts c e in
      record {
        to = λ f. let s = some_of (left_in k no_names (node h ts) 1) f in context_to h ts c read s.0 s.1;
        of = λ s. ap is_some (context_of_sound h ts c read bare s);
      }

  abbrev AreContextsBelow : List Context → Type 0
  AreContextsBelow cs = Each IsProperContext cs × ContextsBelow k cs

  record ReadsBoth (t : Tree) (ts : List Tree) (cs : List Context) : Type 0 where
    first : Context
    others : List Context
    one : context_of t ≡ Some first
    all : contexts_of ts ≡ Some others
    are : first ∷ others ≡ cs

  reads_both : (t : Tree) (ts : List Tree) (cs : List Context) (o : Option Context) (os : Option (List Context)) → context_of t ≡ o → contexts_of ts ≡ os → with_context o os ≡ Some cs → ReadsBoth t ts cs
  reads_both t ts cs (Some c) (Some ds) p q e = record { first = c; others = ds; one = p; all = q; are = some_is e }
  reads_both t ts cs None os p q e = no_some e
  reads_both t ts cs (Some c) None p q e = no_some e

  pub same_contexts : (ts : List Tree) (cs : List Context) → contexts_of ts ≡ Some cs → Each HasBare ts → Same (list_all (fits k 1) ts) (AreContextsBelow cs)
  same_contexts [] cs e bare = record { to = λ t. subst AreContextsBelow (some_is e) (tt, tt); of = λ s. refl }
  same_contexts (t ∷ ts) cs e bare =
      let r = reads_both t ts cs (context_of t) (contexts_of ts) refl refl e in
      let both = same_both (fits k 1 t) (list_all (fits k 1) ts) (IsContextBelow r.first) (AreContextsBelow r.others) (same_context t r.first r.one bare.0) (same_contexts ts r.others r.all bare.1) in
      same_as _ _ _ both
      (λ s. subst AreContextsBelow r.are ((s.0.0, s.1.0), (s.0.1, s.1.1)))
      (λ s. let u : AreContextsBelow (r.first ∷ r.others) = subst AreContextsBelow (sym r.are) s in ((u.0.0, u.1.0), (u.0.1, u.1.1)))

  pub contexts_wait : (ts : List Tree) (cs : List Context) → contexts_of ts ≡ Some cs → AreContexts cs
  contexts_wait [] cs e = subst AreContexts (some_is e) tt
  contexts_wait (t ∷ ts) cs e =
      let r = reads_both t ts cs (context_of t) (contexts_of ts) refl refl e in
      subst AreContexts r.are (one_waits t r.first r.one, contexts_wait ts r.others r.all)
    where
      one_waits : (u : Tree) (c : Context) → context_of u ≡ Some c → IsContext c
      one_waits (node h us) c p = (read_is h us c p).waits

  -- Terms that wait

  outer : (ts : List Tree) → Each HasBare ts → is_some (waiting_of ts) ≡ true → Same (outer_fit k ts) (AreContextsBelow (contexts_shape ts)) × AreContexts (contexts_shape ts)
  outer [] bare e = none_true e
  outer (t ∷ ts) bare e = by (is_hole t) (contexts_of ts) refl e
    where
      by : (b : Bool) (o : Option (List Context)) → contexts_of ts ≡ o → is_some (elim b [ true ↦ o | false ↦ None ]) ≡ true
          → Same (list_all (fits k 1) ts) (AreContextsBelow (or_none (elim b [ true ↦ o | false ↦ None ])))
          × AreContexts (or_none (elim b [ true ↦ o | false ↦ None ]))
      by true (Some cs) p q = (same_contexts ts cs p bare.1, contexts_wait ts cs p)
      by true None p q = none_true q
      by false o p q = none_true q

  no_waits : {A : Type 0} → AreContexts (no_context ∷ []) → A
  no_waits w = absurd (omega (arith, w.0))

  pub waiting : (ts : List Tree) → Each HasBare ts → Same (wait_fits k ts) (AreContextsBelow (contexts_shape ts) × AreContexts (contexts_shape ts))
  waiting ts bare = by (waiting_of ts) refl (waits_is ts)
    where
      by : (o : Option (List Context)) → waiting_of ts ≡ o → found (waiting_of ts) ≡ is_waiting ts → Same (wait_fits k ts) (AreContextsBelow (contexts_shape ts) × AreContexts (contexts_shape ts))
      by None p q =
          let no : is_waiting ts ≡ false = sym q ∙ ap found p in
          record {
            to = λ e. none_true (sym (ap (λ b. b && outer_fit k ts) no) ∙ e);
            of = λ s. no_waits (subst AreContexts (ap or_none p) s.1);
          }
      by (Some cs) p q =
          let yes : is_waiting ts ≡ true = sym q ∙ ap found p in
          let r = outer ts bare (ap is_some p) in
          same_at _ _ _ (ap (λ b. b && outer_fit k ts) yes) (same_as _ _ _ r.0 (λ h. (h, r.1)) (λ h. h.0))

  -- Terms that run

  mutual
    bare_locations : (xs : List Text) (t : Tree) → IsProper xs t → HasBareLocations t
    bare_locations xs (node (Loc n) ts) h = no_terms ts h.1
    bare_locations xs (node hd ts) h = bare_all xs (binders hd) ts h.2

    bare_all : (xs : List Text) (names : List (List Text)) (ts : Trees) → AreProper xs names ts → HaveBareLocations ts
    bare_all xs names none h = tt
    bare_all xs [] (more t ts) h = (bare_locations xs t h.0, bare_all xs [] ts h.1)
    bare_all xs (ys ∷ names) (more t ts) h = (bare_locations (ys ++ xs) t h.0, bare_all xs names ts h.1)

  abbrev is_place_head : Head → Bool
  is_place_head (Loc n) = true
  is_place_head h = false

  bare_behind : (before : List ℕ) (t : Tree) (ts : Trees) → HaveBareLocations (locs_then before (more t ts)) → HasBareLocations t
  bare_behind [] t ts h = h.0
  bare_behind (n ∷ before) t ts h = bare_behind before t ts h.1

  bare_in : (c : Context) (t : Tree) → is_place_head c.head ≡ false → HasBareLocations (plugged c t) → HasBareLocations t
  bare_in c t p h = by c.head p h
    where
      by : (hd : Head) → is_place_head hd ≡ false → HasBareLocations (node hd (locs_then c.before (more t c.behind))) → HasBareLocations t
      by (Loc n) q g = none_true (sym q)
      by hd q g = bare_behind c.before t c.behind g

  bare_plug : (cs : List Context) (t : Tree) → AreContexts cs → HasBareLocations (plug cs t) → HasBareLocations t
  bare_plug [] t w h = h
  bare_plug (c ∷ cs) t w h = bare_in c t (no_place c.head c.before (locs_then c.before (more (loc 0) c.behind)) w.0) (bare_plug cs (plugged c t) w.1 h)
    where
      no_place : (hd : Head) (before : List ℕ) (ts : Trees) → length before < reduced_count hd ts → is_place_head hd ≡ false
      no_place (Loc n) before ts lt = absurd (omega (arith, lt))
      no_place hd before ts lt = refl

  abbrev IsProperBelow : Tree → Type 0
  IsProperBelow t = IsProper [] t × AreBelow k (locations t)

  redex_in : (cs : List Context) (t : Tree) (r : Redex) → AreContexts cs → split t ≡ Splits [] r → IsProperBelow (plug cs t) → IsProperBelow t × AreContextsBelow cs
  redex_in cs t r waits e h =
      let bare = bare_plug cs t waits (bare_locations [] (plug cs t) h.0) in
      let is : redex_node r ≡ t = splits_plug_back t [] r bare e in
      let one : split (plug cs t) ≡ Splits cs r = ap (λ u. split (plug cs u)) (sym is) ∙ splits_one_way cs r waits (splits_are_redexes t [] r e).1 in
      let proper : ProperSplit (Splits cs r) = subst ProperSplit one (split_proper (plug cs t) h.0) in
      let below : SplitBelow k (Splits cs r) = subst (SplitBelow k) one (split_is_below k (plug cs t) h.1) in
      let own : AreBelow k (locations (redex_node r)) =
      each_both (λ i. i < k) (own_locations r.head) (locations_below (locs_then r.places r.behind))
      (each_first (λ i. i < k) (own_locations r.head) (r.places ++ locations_below r.behind) below.1)
      (let rest = each_second (λ i. i < k) (own_locations r.head) (r.places ++ locations_below r.behind) below.1 in
      locs_below k r.places r.behind (each_first (λ i. i < k) r.places (locations_below r.behind) rest) (each_second (λ i. i < k) r.places (locations_below r.behind) rest)) in
      ((subst (IsProper []) is proper.1.node, subst (λ u. AreBelow k (locations u)) is own), (proper.0, below.0))

  of_redex : (cs : List Context) (t : Tree) → IsProperBelow t × AreContextsBelow cs → IsProperBelow (plug cs t)
  of_redex cs t h = (plug_proper cs t h.1.0 h.0.0, plug_below k cs t h.1.1 h.0.1)

  same_fits : (t : Tree) → Same (fits k 0 t) (IsProperBelow t)
  same_fits t = let r = fitting_is_proper k t in record { to = r.0; of = r.1 }

  plugged_to : (t : Tree) (ts : List Tree) (s : Split) (o : Option (List Context)) → split t ≡ s → contexts_of ts ≡ o → is_some (plugged_by s t o) ≡ true → Each HasBare ts
      → Same (fits k 0 t && list_all (fits k 1) ts) (IsProperBelow (or_hole (plugged_by s t o)))
  plugged_to t ts (Splits [] r) (Some cs) p q e bare =
      same_as _ _ _ (same_both (fits k 0 t) (list_all (fits k 1) ts) (IsProperBelow t) (AreContextsBelow cs) (same_fits t) (same_contexts ts cs q bare))
      (of_redex cs t)
      (redex_in cs t r (contexts_wait ts cs q) p)
  plugged_to t ts (Splits [] r) None p q e bare = none_true e
  plugged_to t ts (Splits (c ∷ cs) r) o p q e bare = none_true e
  plugged_to t ts (Stands n) o p q e bare = none_true e

  alone : (n : ℕ) (us : Trees) (ts : List Tree) → us ≡ none → is_some (standing_alone n ts) ≡ true
      → Same (fits k 0 (node (Loc n) us) && list_all (fits k 1) ts) (IsProperBelow (or_hole (standing_alone n ts)))
  alone n us [] bare e = same_as _ _ _ (same_both (fits k 0 (node (Loc n) us)) true (IsProperBelow (node (Loc n) us)) (Unit {0}) (same_fits (node (Loc n) us)) same_true)
      (λ h. subst (λ ts. IsProperBelow (node (Loc n) ts)) bare h.0)
      (λ h. (subst (λ ts. IsProperBelow (node (Loc n) ts)) (sym bare) h, tt))
  alone n us (t ∷ ts) bare e = none_true e

  inner : (ts : List Tree) → Each HasBare ts → Each IsBare ts → is_some (running_of ts) ≡ true → Same (inner_fits k ts) (IsProperBelow (running_shape ts))
  inner [] below bare e = none_true e
  inner (node (Loc n) us ∷ ts) below bare e = alone n us ts bare.0 e
  inner (node h us ∷ ts) below bare e = plugged_to (node h us) ts (split (node h us)) (contexts_of ts) refl refl e below.1

  pub running : (ts : List Tree) → Each HasBare ts → Each IsBare ts → Same (run_fits k ts) (IsProperBelow (running_shape ts))
  running ts below bare = by (running_of ts) refl (runs_is ts)
    where
      by : (o : Option Tree) → running_of ts ≡ o → found (running_of ts) ≡ is_running ts → Same (run_fits k ts) (IsProperBelow (running_shape ts))
      by None p q =
          let no : is_running ts ≡ false = sym q ∙ ap found p in
          record {
            to = λ e. none_true (sym (ap (λ b. b && inner_fits k ts) no) ∙ e);
            of = λ s. none_true (subst IsProperBelow (ap or_hole p) s).0.0;
          }
      by (Some t) p q =
          let yes : is_running ts ≡ true = sym q ∙ ap found p in
          same_at _ _ _ (ap (λ b. b && inner_fits k ts) yes) (inner ts below bare (ap is_some p))
