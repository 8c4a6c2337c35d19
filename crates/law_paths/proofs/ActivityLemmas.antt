-- Activities that agree are linked, and linked ones agree.
use Rattle.std.specs.Prelude.{◌≡◌, ℕ, ◌<◌, false, List, [], ◌∷◌, ◌++◌, length, map}
use Rattle.std.specs.List.{flat_map}
use Rattle.std.proofs.Common.{refl, sym, ap, subst, ◌∙◌, inl, inr, ◌⊎◌, append_assoc}
use Rattle.asp_model.specs.Names.{FutureShape}
use Rattle.asp_model.specs.Term.{Head, Loc, own_locations, locations, locations_below, moved_head}
use Rattle.asp_model.specs.Split.{Context}
use Rattle.asp_model.specs.Chase.{Chase}
use Rattle.asp_model.specs.Configuration.{ServiceShape, Activity}
use Rattle.law_steps.specs.Linked.{Each}
use Rattle.law_steps.specs.Closed.{AreBelow, ContextsBelow, IsClosedActivity}
use Rattle.law_chases.proofs.FutureLemmas.{none_true}
use Rattle.law_steps.proofs.EachLemmas.{each_both}
use Rattle.def_paths.specs.Places.{Place, side_by}
use Rattle.def_paths.specs.Agree.{Pairs, no_pair, pair, blank_context, places_round, blank_service, places_in, roots_of, ActivitiesAgree}
use Rattle.law_paths.specs.Links.{IsClosedSide}
use Rattle.law_paths.specs.Alike.{AreAlike, AlikeHeads, loc_heads, same_heads, AlikeContexts}
use Rattle.law_paths.proofs.PairLemmas.{pairs_more}
use Rattle.law_paths.proofs.PathLemmas.{link_reads, OnePath, paths_link, roots_linked}
use Rattle.law_paths.proofs.AlikeLemmas.{alike_blank, alike_locations, below_blank, below_locations}
use Rattle.law_paths.proofs.ShapeLemmas.{loc_or_not, both_first, is_nil, is_loc, trees_from, tree_from, zeros}
use Rattle.law_paths.proofs.OnwardLemmas.{Stored, Sides, stored_pairs, pairs_stored}

pub record AlikeServices (L : ℕ → ℕ → Type 0) (v w : ServiceShape) : Type 0 where
  pub contexts : Pairs (AlikeContexts L) v.contexts w.contexts
  pub future : v.future ≡ w.future

pub record SameCounts (a b : Activity) : Type 0 where
  pub present : a.present ≡ b.present
  pub sends : a.sends ≡ b.sends
  pub creations : a.creations ≡ b.creations
  pub reductions : a.reductions ≡ b.reductions
  pub lines : a.lines ≡ b.lines
  pub served : a.served ≡ b.served

pub record LinkedActivities (k l : FutureShape → Chase) (a b : Activity) (R : Place → Place → Type 0) : Type 0 where
  pub sides : Sides (side_by k a.store) (side_by l b.store) R
  pub active : Stored R a.active b.active
  pub term : AreAlike (Stored R) a.term b.term
  pub services : Pairs (AlikeServices (Stored R)) a.services b.services
  pub counts : SameCounts a b

-- What contexts and services show

abbrev first_context : Context → List Context → Context
first_context x [] = x
first_context x (y ∷ ys) = y

abbrev other_contexts : List Context → List Context
other_contexts [] = []
other_contexts (y ∷ ys) = ys

abbrev first_service : ServiceShape → List ServiceShape → ServiceShape
first_service x [] = x
first_service x (y ∷ ys) = y

abbrev other_services : List ServiceShape → List ServiceShape
other_services [] = []
other_services (y ∷ ys) = ys

abbrev other_numbers : List ℕ → List ℕ
other_numbers [] = []
other_numbers (y ∷ ys) = ys

module _ (L : ℕ → ℕ → Type 0) where
  numbers_from : (xs ys : List ℕ) → map {B = ℕ} (λ n. 0) xs ≡ map (λ n. 0) ys → (us vs : List ℕ) → Pairs L (xs ++ us) (ys ++ vs) → Pairs L xs ys × Pairs L us vs
  numbers_from [] [] e us vs ps = (no_pair, ps)
  numbers_from [] (y ∷ ys) e us vs ps = none_true (sym (ap is_nil e))
  numbers_from (x ∷ xs) [] e us vs ps = none_true (ap is_nil e)
  numbers_from (x ∷ xs) (y ∷ ys) e us vs ps =
      let first = both_first L x y _ _ ps in
      let rest = numbers_from xs ys (ap other_numbers e) us vs first.1 in
      (pair first.0 rest.0, rest.1)

  heads_from : (h k : Head) → moved_head (λ n. 0) h ≡ moved_head (λ n. 0) k → (us vs : List ℕ) → Pairs L (own_locations h ++ us) (own_locations k ++ vs) → AlikeHeads L h k × Pairs L us vs
  heads_from h k e us vs ps = by (loc_or_not h) (loc_or_not k)
    where
      by : ((i : ℕ) × (h ≡ Loc i)) ⊎ ((own_locations h ≡ []) × (moved_head (λ n. 0) h ≡ h) × (is_loc h ≡ false)) → ((i : ℕ) × (k ≡ Loc i)) ⊎ ((own_locations k ≡ []) × (moved_head (λ n. 0) k ≡ k) × (is_loc k ≡ false)) → AlikeHeads L h k × Pairs L us vs
      by (inl x) (inl y) =
          let first : Pairs L (x.0 ∷ us) (y.0 ∷ vs) = subst (λ z. Pairs L (x.0 ∷ us) (own_locations z ++ vs)) y.1 (subst (λ z. Pairs L (own_locations z ++ us) (own_locations k ++ vs)) x.1 ps) in
          let both = both_first L x.0 y.0 us vs first in
          (subst (λ z. AlikeHeads L z k) (sym x.1) (subst (λ z. AlikeHeads L (Loc x.0) z) (sym y.1) (loc_heads both.0)), both.1)
      by (inl x) (inr y) = none_true (sym (ap is_loc (ap (moved_head (λ n. 0)) (sym x.1) ∙ e ∙ y.1) ∙ y.2))
      by (inr x) (inl y) = none_true (sym (ap is_loc (ap (moved_head (λ n. 0)) (sym y.1) ∙ sym e ∙ x.1) ∙ x.2))
      by (inr x) (inr y) = (subst (AlikeHeads L h) (sym x.1 ∙ e ∙ y.1) (same_heads h x.0), subst (λ z. Pairs L us (z ++ vs)) y.0 (subst (λ z. Pairs L (z ++ us) (own_locations k ++ vs)) x.0 ps))

  split_three : (x : Context) (us : List ℕ) → places_round x ++ us ≡ own_locations x.head ++ (x.before ++ (locations_below x.behind ++ us))
  split_three x us = append_assoc (own_locations x.head) (x.before ++ locations_below x.behind) us ∙ ap (λ l. own_locations x.head ++ l) (append_assoc x.before (locations_below x.behind) us)

  context_from : (x y : Context) → blank_context x ≡ blank_context y → (us vs : List ℕ) → Pairs L (places_round x ++ us) (places_round y ++ vs) → AlikeContexts L x y × Pairs L us vs
  context_from x y e us vs ps =
      let heads = heads_from x.head y.head (ap (λ c. c.head) e) _ _ (subst (λ l. Pairs L (own_locations x.head ++ (x.before ++ (locations_below x.behind ++ us))) l) (split_three y vs) (subst (λ l. Pairs L l (places_round y ++ vs)) (split_three x us) ps)) in
      let before = numbers_from x.before y.before (ap (λ c. c.before) e) _ _ heads.1 in
      let behind = trees_from L x.behind y.behind (ap (λ c. c.behind) e) us vs before.1 in
      (record { head = heads.0; before = before.0; behind = behind.0 }, behind.1)

  contexts_from : (cs ds : List Context) → map blank_context cs ≡ map blank_context ds → (us vs : List ℕ) → Pairs L (flat_map places_round cs ++ us) (flat_map places_round ds ++ vs) → Pairs (AlikeContexts L) cs ds × Pairs L us vs
  contexts_from [] [] e us vs ps = (no_pair, ps)
  contexts_from [] (d ∷ ds) e us vs ps = none_true (sym (ap is_nil e))
  contexts_from (c ∷ cs) [] e us vs ps = none_true (ap is_nil e)
  contexts_from (c ∷ cs) (d ∷ ds) e us vs ps =
      let first = context_from c d (ap (first_context (blank_context c)) e) _ _ (subst (λ l. Pairs L (places_round c ++ (flat_map places_round cs ++ us)) l) (append_assoc (places_round d) (flat_map places_round ds) vs) (subst (λ l. Pairs L l ((places_round d ++ flat_map places_round ds) ++ vs)) (append_assoc (places_round c) (flat_map places_round cs) us) ps)) in
      let rest = contexts_from cs ds (ap other_contexts e) us vs first.1 in
      (pair first.0 rest.0, rest.1)

  services_from : (vs ws : List ServiceShape) → map blank_service vs ≡ map blank_service ws → Pairs L (flat_map places_in vs) (flat_map places_in ws) → Pairs (AlikeServices L) vs ws
  services_from [] [] e ps = no_pair
  services_from [] (w ∷ ws) e ps = none_true (sym (ap is_nil e))
  services_from (v ∷ vs) [] e ps = none_true (ap is_nil e)
  services_from (v ∷ vs) (w ∷ ws) e ps =
      let first = contexts_from v.contexts w.contexts (ap (λ l. (first_service (blank_service v) l).contexts) e) _ _ ps in
      pair (record { contexts = first.0; future = ap (λ l. (first_service (blank_service v) l).future) e }) (services_from vs ws (ap other_services e) first.1)

  -- Back

  head_shows : (h k : Head) → AlikeHeads L h k → (moved_head (λ n. 0) h ≡ moved_head (λ n. 0) k) × Pairs L (own_locations h) (own_locations k)
  head_shows _ _ (loc_heads r) = (refl, pair r no_pair)
  head_shows _ _ (same_heads h e) = (refl, subst (λ l. Pairs L l l) (sym e) no_pair)

  context_shows : (x y : Context) → AlikeContexts L x y → (blank_context x ≡ blank_context y) × Pairs L (places_round x) (places_round y)
  context_shows x y c =
      let h = head_shows x.head y.head c.head in (
        (λ i. record { head = h.0 i; before = zeros L x.before y.before c.before i; behind = below_blank L x.behind y.behind c.behind i }),
        pairs_more L _ _ _ _ h.1 (pairs_more L _ _ _ _ c.before (below_locations L x.behind y.behind c.behind)),
      )

  contexts_show : (cs ds : List Context) → Pairs (AlikeContexts L) cs ds → (map blank_context cs ≡ map blank_context ds) × Pairs L (flat_map places_round cs) (flat_map places_round ds)
  contexts_show _ _ no_pair = (refl, no_pair)
  contexts_show _ _ (pair {x = c} {y = d} e es) = let x = context_shows c d e in let k = contexts_show _ _ es in ((λ i. x.0 i ∷ k.0 i), pairs_more L _ _ _ _ x.1 k.1)

  services_show : (vs ws : List ServiceShape) → Pairs (AlikeServices L) vs ws → (map blank_service vs ≡ map blank_service ws) × Pairs L (flat_map places_in vs) (flat_map places_in ws)
  services_show _ _ no_pair = (refl, no_pair)
  services_show _ _ (pair {x = v} {y = w} e es) =
      let x = contexts_show v.contexts w.contexts e.contexts in
      let k = services_show _ _ es in
      ((λ i. record { contexts = x.0 i; future = e.future i } ∷ k.0 i), pairs_more L _ _ _ _ x.1 k.1)

-- Activities

contexts_below : (n : ℕ) (cs : List Context) → ContextsBelow n cs → AreBelow n (flat_map places_round cs)
contexts_below n [] h = tt
contexts_below n (c ∷ cs) h = each_both (λ i. i < n) (places_round c) (flat_map places_round cs) h.0 (contexts_below n cs h.1)

services_below : (n : ℕ) (vs : List ServiceShape) → Each (λ v. ContextsBelow n v.contexts) vs → AreBelow n (flat_map places_in vs)
services_below n [] h = tt
services_below n (v ∷ vs) h = each_both (λ i. i < n) (places_in v) (flat_map places_in vs) (contexts_below n v.contexts h.0) (services_below n vs h.1)

-- the roots of a closed activity are in its store
pub roots_below : (a : Activity) → IsClosedActivity a → AreBelow (length a.store) (roots_of a)
roots_below a h = (h.active, each_both (λ i. i < length a.store) (locations a.term) (flat_map places_in a.services) h.term (services_below (length a.store) a.services h.services))

module _ (k l : FutureShape → Chase) (a b : Activity) where
  pub linked_agree : (R : Place → Place → Type 0) → LinkedActivities k l a b R → ActivitiesAgree k l a b
  linked_agree R x =
      let v = services_show (Stored R) a.services b.services x.services in
      record {
        term = alike_blank (Stored R) a.term b.term x.term;
        services = v.0;
        reading = link_reads (side_by k a.store) (side_by l b.store) R x.sides.link (roots_of a) (roots_of b) (pairs_stored R (roots_of a) (roots_of b) (pair x.active (pairs_more (Stored R) _ _ _ _ (alike_locations (Stored R) a.term b.term x.term) v.1)));
        present = x.counts.present;
        sends = x.counts.sends;
        creations = x.counts.creations;
        reductions = x.counts.reductions;
        lines = x.counts.lines;
        served = x.counts.served;
      }

  module _ (x : ActivitiesAgree k l a b) (ha : IsClosedActivity a) (hb : IsClosedActivity b) (sa : IsClosedSide (side_by k a.store)) (sb : IsClosedSide (side_by l b.store)) where
    -- the places to which one path leads
    abbrev pub OnePathOf : Place → Place → Type 0
    OnePathOf = OnePath (side_by k a.store) (side_by l b.store) sa sb (roots_of a) (roots_of b) (roots_below a ha) (roots_below b hb) x.reading

    pub agree_linked : LinkedActivities k l a b OnePathOf
    agree_linked =
        let roots = stored_pairs OnePathOf (roots_of a) (roots_of b) (roots_linked (side_by k a.store) (side_by l b.store) sa sb (roots_of a) (roots_of b) (roots_below a ha) (roots_below b hb) x.reading) in
        let first = both_first (Stored OnePathOf) a.active b.active _ _ roots in
        let term = tree_from (Stored OnePathOf) a.term b.term x.term (flat_map places_in a.services) (flat_map places_in b.services) first.1 in
        record {
          sides = record { link = paths_link (side_by k a.store) (side_by l b.store) sa sb (roots_of a) (roots_of b) (roots_below a ha) (roots_below b hb) x.reading; left = sa; right = sb };
          active = first.0;
          term = term.0;
          services = services_from (Stored OnePathOf) a.services b.services x.services term.1;
          counts = record { present = x.present; sends = x.sends; creations = x.creations; reductions = x.reductions; lines = x.lines; served = x.served };
        }
